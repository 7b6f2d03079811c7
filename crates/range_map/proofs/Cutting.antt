-- What a cut, a change and a lay leave of a map: what each position has, the rising order, the number of entries. Assumes nothing.
use Rattle.std.proofs.Common.{◌≡◌, ℕ, ◌+◌, ◌<◌, ◌≤◌, cond, ◌&&◌, ltb, leb, List, [], ◌∷◌, ◌++◌, map, length, IfSome, Some, None, Option, sym, refl, ap, ◌∙◌, ⊎_elim, arith}
use lib.ListN.{length-map}
use Rattle.std.proofs.lemmas.Bool.{cases_lt, lt-ltb, le-ltb, ltb-true, ltb-false, lt-leb, leb-true, cond-true, cond-false, cond_both}
use Rattle.std.proofs.lemmas.Bool.Decides.{nat_tests}
use Rattle.std.specs.Option.{option_map}
use Rattle.range_map.specs.declared.entry.Entry.{Entry}
use Rattle.range_map.specs.Plain.{within, Between, at, payload_at, meeting, hit, below, from, cut, cuts, lay, remade, repaid, change, cuts_of}

module _ {P : Type 0} where
  -- a cut changes what no position has
  pub at_cut : (n k : ℕ) (m : List (Entry P)) → payload_at k (cut n m) ≡ payload_at k m
  unfolding at cut
  at_cut n k [] = refl
  at_cut n k (e ∷ m) = let h = at_cut n k m in grind (arith, nat_tests)

  pub length_cut : (n : ℕ) (m : List (Entry P)) → length (cut n m) ≡ length m + cuts n m
  unfolding cut cuts
  length_cut n [] = refl
  length_cut n (e ∷ m) = let h = length_cut n m in grind (arith, nat_tests)

  pub between_weaker : (a b h : ℕ) (m : List (Entry P)) → a ≤ b → Between b h m → Between a h m
  between_weaker a b h [] le w = tt
  between_weaker a b h (e ∷ m) le w = (omega arith, w.1, w.2, w.3)

  pub between_cut : (n b h : ℕ) (m : List (Entry P)) → Between b h m → Between b h (cut n m)
  unfolding cut
  between_cut n b h [] w = tt
  between_cut n b h (e ∷ m) w =
      cond_both {A = List (Entry P)} (ltb e.last n) _ _ (Between b h) (λ _. (w.0, w.1, w.2, between_cut n (e.last + 1) h m w.3))
      (λ r. let reach = ltb-false e.last n r in
      cond_both {A = List (Entry P)} (ltb e.first n) _ _ (Between b h)
      (λ s. let begun = ltb-true e.first n s in (w.0, omega arith, omega arith, (omega arith, omega arith, w.2, w.3)))
      (λ _. w))

  -- a payload made anew for every entry
  pub at_remade : (g : Entry P → P) (n : ℕ) (m : List (Entry P)) → at n (map (remade g) m) ≡ option_map (remade g) (at n m)
  unfolding at
  at_remade g n [] = refl
  at_remade g n (e ∷ m) = let h = at_remade g n m in grind (arith, nat_tests)

  pub between_remade : (g : Entry P → P) (b h : ℕ) (m : List (Entry P)) → Between b h m → Between b h (map (remade g) m)
  between_remade g b h [] w = tt
  between_remade g b h (e ∷ m) w = (w.0, w.1, w.2, between_remade g (e.last + 1) h m w.3)

  pub between_change : (f l : ℕ) (p : P) (b h : ℕ) (m : List (Entry P)) → Between b h m → Between b h (change f l p m)
  unfolding change
  between_change f l p b h m w =
      between_remade (λ e. cond (within f l e.first) p e.payload) b h (cut f (cut (l + 1) m)) (between_cut f b h (cut (l + 1) m) (between_cut (l + 1) b h m w))

  -- the cuts at the two ends are counted apart
  pub cuts_cut : (f l : ℕ) (m : List (Entry P)) → f ≤ l → cuts f (cut (l + 1) m) ≡ cuts f m
  unfolding cut cuts
  cuts_cut f l [] le = refl
  cuts_cut f l (e ∷ m) le = let h = cuts_cut f l m le in grind (arith, nat_tests)

  pub length_change : (f l : ℕ) (p : P) (m : List (Entry P)) → f ≤ l → length (change f l p m) ≡ length m + cuts_of f l m
  unfolding change cuts_of
  length_change f l p m le =
      let a = length-map (cut f (cut (l + 1) m)) (repaid f l p) in
      let b = length_cut f (cut (l + 1) m) in
      let c = length_cut (l + 1) m in
      let d = cuts_cut f l m le in
      omega arith

  -- below where a map begins no position has an entry
  pub at_below : (n b h : ℕ) (m : List (Entry P)) → Between b h m → n < b → at n m ≡ None
  unfolding at
  at_below n b h [] w lt = refl
  at_below n b h (e ∷ m) w lt = let h1 : n ≤ e.last = omega arith in let h2 : n < e.first = omega arith in cond-false _ _ _ (le-ltb _ n h1) ∙ cond-false _ _ _ (lt-leb _ n h2)

  -- an entry is found only at the positions that it covers
  pub covers : (n : ℕ) (m : List (Entry P)) → IfSome (at n m) (λ e. (e.first ≤ n) × (n ≤ e.last))
  unfolding at
  covers n [] = tt
  covers n (e ∷ m) =
      let Q : Option (Entry P) → Type 0 = λ o. IfSome o (λ x. (x.first ≤ n) × (n ≤ x.last)) in
      cond_both {A = Option (Entry P)} (ltb e.last n) _ _ Q (λ _. covers n m)
      (λ r. cond_both {A = Option (Entry P)} (leb e.first n) _ _ Q (λ s. (leb-true e.first n s, ltb-false e.last n r)) (λ _. tt))

  -- what a cut before k makes of the entry that covers n
  abbrev piece : ℕ → ℕ → Entry P → Entry P
  piece k n e = cond (ltb e.first k && leb k e.last) (cond (ltb n k) (below k e) (from k e)) e

  piece_past : (k n b h : ℕ) (m : List (Entry P)) → Between b h m → k ≤ b → option_map (piece k n) (at n m) ≡ at n m
  unfolding at
  piece_past k n b h [] w le = refl
  piece_past k n b h (e ∷ m) w le = let i = piece_past k n (e.last + 1) h m w.3 (omega arith) in grind (arith, nat_tests)

  pub at_piece : (k n b h : ℕ) (m : List (Entry P)) → Between b h m → at n (cut k m) ≡ option_map (piece k n) (at n m)
  unfolding at cut
  at_piece k n b h [] w = refl
  at_piece k n b h (e ∷ m) w =
      let i = at_piece k n (e.last + 1) h m w.3 in
      ⊎_elim
      (λ lt. grind (arith, nat_tests))
      (λ ge. let j = piece_past k n (e.last + 1) h m w.3 (omega arith) in grind (arith, nat_tests))
      (cases_lt e.last k)

  repaid_piece : (f l : ℕ) (p : P) (n : ℕ) (o : Option (Entry P)) → f ≤ l → IfSome o (λ e. (e.first ≤ n) × (n ≤ e.last)) → option_map (λ e. e.payload) (option_map (repaid f l p) (option_map (piece f n) (option_map (piece (l + 1) n) o))) ≡ cond (within f l n) (option_map (λ _. p) (option_map (λ e. e.payload) o)) (option_map (λ e. e.payload) o)
  repaid_piece f l p n None le c = grind (arith, nat_tests)
  repaid_piece f l p n (Some e) le c = grind (arith, nat_tests)

  -- after a change a position within has the new payload, where it had any, and every other position what it had
  pub at_change : (f l : ℕ) (p : P) (n b h : ℕ) (m : List (Entry P)) → Between b h m → f ≤ l → payload_at n (change f l p m) ≡ cond (within f l n) (option_map (λ _. p) (payload_at n m)) (payload_at n m)
  unfolding change
  at_change f l p n b h m w le =
      let first = at_piece (l + 1) n b h m w in
      let second = at_piece f n b h (cut (l + 1) m) (between_cut (l + 1) b h m w) in
      let all = at_remade (λ e. cond (within f l e.first) p e.payload) n (cut f (cut (l + 1) m)) in
      ap (option_map (λ e. e.payload)) (all ∙ ap (option_map (repaid f l p)) (second ∙ ap (option_map (piece f n)) first))
      ∙ repaid_piece f l p n (at n m) le (covers n m)

  -- after a lay of a range in which nothing was taken a position within has the payload, and every other position what it had
  pub at_lay : (f l : ℕ) (p : P) (n : ℕ) (m : List (Entry P)) → f ≤ l → hit f l m ≡ None → payload_at n (lay (record { first = f; last = l; payload = p }) m) ≡ cond (within f l n) (Some p) (payload_at n m)
  unfolding at hit lay
  at_lay f l p n [] le free = grind (arith, nat_tests)
  at_lay f l p n (e ∷ m) le free =
      ⊎_elim
      (λ lt. let i = at_lay f l p n m le (sym (cond-true _ _ _ (lt-ltb _ f lt)) ∙ free) in grind (arith, nat_tests))
      (λ ge. let t = sym (cond-false _ _ _ (le-ltb _ f ge)) ∙ free in grind (arith, nat_tests))
      (cases_lt e.last f)

  pub length_lay : (x : Entry P) (m : List (Entry P)) → length (lay x m) ≡ length m + 1
  unfolding lay
  length_lay x [] = refl
  length_lay x (e ∷ m) = let i = length_lay x m in grind (arith, nat_tests)

  -- where nothing was taken, an entry that does not end before the range begins past it
  free_past : (f l : ℕ) (e : Entry P) → f ≤ l → meeting f l e ≡ None → l < e.first
  free_past f l e le free = grind (arith, nat_tests)

  pub between_lay : (x : Entry P) (b h : ℕ) (m : List (Entry P)) → b ≤ x.first → x.first ≤ x.last → x.last < h → hit x.first x.last m ≡ None → Between b h m → Between b h (lay x m)
  unfolding hit lay
  between_lay x b h [] low le high free w = (low, le, high, tt)
  between_lay x b h (e ∷ m) low le high free w =
      cond_both {A = List (Entry P)} (ltb e.last x.first) _ _ (Between b h)
      (λ t. let lt = ltb-true _ x.first t in
      (w.0, w.1, w.2, between_lay x (e.last + 1) h m (omega arith) le high (sym (cond-true _ _ _ t) ∙ free) w.3))
      (λ t. let past = free_past x.first x.last e le (sym (cond-false _ _ _ t) ∙ free) in
      (low, le, high, (omega arith, w.1, w.2, w.3)))

  -- past the last entry nothing is taken, and a lay stands at the end
  pub hit_past : (f l b : ℕ) (m : List (Entry P)) → Between b f m → hit f l m ≡ None
  unfolding hit
  hit_past f l b [] w = refl
  hit_past f l b (e ∷ m) w = cond-true _ _ _ (lt-ltb e.last f w.2) ∙ hit_past f l (e.last + 1) m w.3

  pub lay_past : (x : Entry P) (b : ℕ) (m : List (Entry P)) → Between b x.first m → lay x m ≡ m ++ (x ∷ [])
  unfolding lay
  lay_past x b [] w = refl
  lay_past x b (e ∷ m) w = cond-true _ _ _ (lt-ltb e.last x.first w.2) ∙ ap (λ r. e ∷ r) (lay_past x (e.last + 1) m w.3)
