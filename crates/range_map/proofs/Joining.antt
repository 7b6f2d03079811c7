-- At a rising map the halving stops behind exactly the entries that end before the position,
-- so that the definitions by index are those by recursion. Assumes nothing.
use Rattle.std.proofs.Common.{◌≡◌, ℕ, zero, suc, ◌+◌, ◌-◌, ◌/◌, ◌<◌, ◌≤◌, Bool, true, false, cond, not, ◌||◌, ltb, leb, ◌⊎◌, List, [], ◌∷◌, ◌++◌, map, length, get_or, take, drop, Some, None, Option, sym, refl, ap, ◌∙◌, subst, inl, inr, ⊎_elim, zero-add, arith}
use lib.ListN.{length-map}
use Rattle.std.specs.List.{insert, slice_get}
use Rattle.std.specs.List.Sorted.{IsNonDecreasingBy, IsPartitionPoint}
use Rattle.std.specs.Option.{option_and_then, option_map_or}
use Rattle.std.proofs.lemmas.Bool.{cases_lt, cases_Bool, lt-ltb, le-ltb, ltb-true, ltb-false, leb-true, leb-false, cond-true, cond-false, cond_both}
use Rattle.std.proofs.lemmas.Bool.Decides.{nat_tests}
use Rattle.range_map.specs.declared.entry.Entry.{Entry}
use Rattle.range_map.specs.Halving.{seek, lasts, place}
use Rattle.range_map.specs.Plain.{Between, at, hit, holding, meeting, gap, gap_by, below, from, split, cut, cuts, lay, repaid, change, cuts_of}
use Rattle.range_map.specs.Placed.{rest, head_at, found, head_hit, taken, uncovered, head_cuts, head_cut, ending, cuts_in, cut_at, paid, head_paid, paid_at, changed, laid}
use Rattle.range_map.proofs.Cutting.{between_weaker, between_cut}

abbrev mid : ℕ → ℕ → ℕ
mid low high = low + (high - low) / 2

or_none : (b : Bool) → (b || not true) ≡ b
or_none true = refl
or_none false = refl

-- r is a place to stop: what stands before it is below n, and what stands there is not
pub record Stop (n : ℕ) (xs : List ℕ) (r : ℕ) : Type 0 where
  pub inside : r ≤ length xs
  pub passed : (k : ℕ) → suc k ≡ r → get_or xs k 0 < n
  pub stopped : r < length xs → n ≤ get_or xs r 0

pub seek_stops : (n : ℕ) (xs : List ℕ) (k low high : ℕ) → high ≤ low + k → low ≤ high → high ≤ length xs → ((j : ℕ) → suc j ≡ low → get_or xs j 0 < n) → (high < length xs → n ≤ get_or xs high 0) → Stop n xs (seek n xs k low high)
unfolding seek
seek_stops n xs zero low high fuel order long bottom top =
    let same : high ≡ low = omega arith in
    record { inside = omega arith; passed = bottom; stopped = subst (λ j. j < length xs → n ≤ get_or xs j 0) same top }
seek_stops n xs (suc k) low high fuel order long bottom top =
    cond_both {A = ℕ} (ltb low high) _ _ (Stop n xs)
    (λ t. let lt = ltb-true low high t in
    cond_both {A = ℕ} (ltb (get_or xs (mid low high) 0) n) _ _ (Stop n xs)
    (λ s. let less = ltb-true _ n s in
    seek_stops n xs k (mid low high + 1) high (omega arith) (omega arith) long
    (λ j e. let same : mid low high ≡ j = omega arith in subst (λ i. get_or xs i 0 < n) same less) top)
    (λ s. let more = ltb-false _ n s in seek_stops n xs k low (mid low high) (omega arith) (omega arith) (omega arith) bottom (λ _. more)))
    (λ t. let ge = ltb-false low high t in
    let same : high ≡ low = omega arith in
    record { inside = omega arith; passed = bottom; stopped = subst (λ j. j < length xs → n ≤ get_or xs j 0) same top })

module _ {P : Type 0} where
  pub place_stops : (n : ℕ) (m : List (Entry P)) → Stop n (lasts m) (place n m)
  unfolding place
  place_stops n m =
      let long = length-map m (λ e. e.last) in
      seek_stops n (lasts m) (length m) 0 (length m) (omega arith) (omega arith) (omega arith) (λ j e. absurd (omega arith)) (λ lt. absurd (omega arith))

  -- how many entries in front end before n
  abbrev pub skipped : ℕ → List (Entry P) → ℕ
  skipped n [] = 0
  skipped n (e ∷ m) = cond (ltb e.last n) (suc (skipped n m)) 0

  after : (b h : ℕ) (m : List (Entry P)) (k : ℕ) → Between b h m → k < length (lasts m) → b ≤ get_or (lasts m) k 0
  after b h [] k w lt = absurd (omega arith)
  after b h (e ∷ m) zero w lt = omega arith
  after b h (e ∷ m) (suc k) w lt = omega (arith, after (e.last + 1) h m k w.3 (omega arith))

  stop_skipped : (n b h : ℕ) (m : List (Entry P)) (r : ℕ) → Between b h m → Stop n (lasts m) r → r ≡ skipped n m
  stop_skipped n b h [] zero w s = refl
  stop_skipped n b h [] (suc r) w s = absurd (omega (arith, s.inside))
  stop_skipped n b h (e ∷ m) zero w s = sym (cond-false _ _ _ (le-ltb e.last n (s.stopped (omega arith))))
  stop_skipped n b h (e ∷ m) (suc r) w s =
      let first : e.last < n = front r s.inside (s.passed r refl) in
      let more = stop_skipped n (e.last + 1) h m r w.3 (record { inside = omega (arith, s.inside); passed = λ k is. s.passed (suc k) (ap suc is); stopped = λ lt. s.stopped (omega arith) }) in
      ap suc more ∙ sym (cond-true _ _ _ (lt-ltb e.last n first))
    where
      front : (k : ℕ) → suc k ≤ length (lasts (e ∷ m)) → get_or (lasts (e ∷ m)) k 0 < n → e.last < n
      front zero lt less = less
      front (suc k) lt less = omega (arith, after (e.last + 1) h m k w.3 (omega arith))

  pub place_skipped : (n b h : ℕ) (m : List (Entry P)) → Between b h m → place n m ≡ skipped n m
  place_skipped n b h m w = stop_skipped n b h m (place n m) w (place_stops n m)

  -- where the entries that end before n stop, by a test of each
  pub point_skipped : (n : ℕ) (m : List (Entry P)) (i : ℕ) → i ≤ length m → IsPartitionPoint (λ y. ltb y.last n ≡ true) (λ y. ltb y.last n ≡ false) m i → i ≡ skipped n m
  point_skipped n [] i le p = omega arith
  point_skipped n (e ∷ m) zero le p = sym (cond-false _ _ _ (p.1 0 e (omega arith) (omega arith)))
  point_skipped n (e ∷ m) (suc i) le p =
      let more = point_skipped n m i (omega arith) (λ k d low high. p.0 (suc k) d (omega arith) (omega arith), λ k d low high. p.1 (suc k) d (omega arith) (omega arith)) in
      ap suc more ∙ sym (cond-true _ _ _ (p.0 0 e (omega arith) (omega arith)))

  pub lasts_from : (b h : ℕ) (m : List (Entry P)) (j : ℕ) (d : Entry P) → Between b h m → j < length m → (b ≤ (get_or m j d).first) × ((get_or m j d).first ≤ (get_or m j d).last)
  lasts_from b h [] j d w lt = absurd (omega arith)
  lasts_from b h (e ∷ m) zero d w lt = (w.0, w.1)
  lasts_from b h (e ∷ m) (suc j) d w lt = let more = lasts_from (e.last + 1) h m j d w.3 (omega arith) in (omega (arith, more.0), more.1)

  pub lasts_rise : (b h : ℕ) (m : List (Entry P)) → Between b h m → IsNonDecreasingBy (λ e. e.last) m
  lasts_rise b h [] w i j d le lt = absurd (omega arith)
  lasts_rise b h (e ∷ m) w zero zero d le lt = omega arith
  lasts_rise b h (e ∷ m) w zero (suc j) d le lt = let more = lasts_from (e.last + 1) h m j d w.3 (omega arith) in omega (arith, more.0, more.1)
  lasts_rise b h (e ∷ m) w (suc i) zero d le lt = absurd (omega arith)
  lasts_rise b h (e ∷ m) w (suc i) (suc j) d le lt = lasts_rise (e.last + 1) h m w.3 i j d (omega arith) (omega arith)

  pub firsts_rise : (b h : ℕ) (m : List (Entry P)) → Between b h m → IsNonDecreasingBy (λ e. e.first) m
  firsts_rise b h [] w i j d le lt = absurd (omega arith)
  firsts_rise b h (e ∷ m) w zero zero d le lt = omega arith
  firsts_rise b h (e ∷ m) w zero (suc j) d le lt = let more = lasts_from (e.last + 1) h m j d w.3 (omega arith) in omega (arith, more.0)
  firsts_rise b h (e ∷ m) w (suc i) zero d le lt = absurd (omega arith)
  firsts_rise b h (e ∷ m) w (suc i) (suc j) d le lt = firsts_rise (e.last + 1) h m w.3 i j d (omega arith) (omega arith)

  get_split : (b : Bool) (s : ℕ) (e : Entry P) (m : List (Entry P)) → slice_get (e ∷ m) (cond b (suc s) 0) ≡ cond b (slice_get m s) (Some e)
  get_split true s e m = refl
  get_split false s e m = refl

  -- a definition that passes over such entries and asks for no more than the next one
  pub by_get : {Y : Type 0} (n : ℕ) (F : List (Entry P) → Y) (K : Option (Entry P) → Y) → F [] ≡ K None → ((e : Entry P) (m : List (Entry P)) → F (e ∷ m) ≡ cond (ltb e.last n) (F m) (K (Some e))) → (m : List (Entry P)) → F m ≡ K (slice_get m (skipped n m))
  by_get n F K none more [] = none
  by_get n F K none more (e ∷ m) =
      let i = by_get n F K none more m in
      ⊎_elim
      (λ t. more e m ∙ cond-true _ _ _ t ∙ i ∙ sym (ap K (get_split _ (skipped n m) e m ∙ cond-true _ _ _ t)))
      (λ t. more e m ∙ cond-false _ _ _ t ∙ sym (ap K (get_split _ (skipped n m) e m ∙ cond-false _ _ _ t)))
      (cases_Bool (ltb e.last n))

  drop_split : (b : Bool) (s : ℕ) (e : Entry P) (m : List (Entry P)) → drop (cond b (suc s) 0) (e ∷ m) ≡ cond b (drop s m) (e ∷ m)
  drop_split true s e m = refl
  drop_split false s e m = refl

  take_split : (b : Bool) (s : ℕ) (e : Entry P) (m : List (Entry P)) → take (cond b (suc s) 0) (e ∷ m) ≡ cond b (e ∷ take s m) []
  take_split true s e m = refl
  take_split false s e m = refl

  -- a definition that only passes over such entries is what it is where the halving stops
  pub by_skipping : {Y : Type 0} (n : ℕ) (F H : List (Entry P) → Y) → F [] ≡ H [] → ((e : Entry P) (m : List (Entry P)) → F (e ∷ m) ≡ cond (ltb e.last n) (F m) (H (e ∷ m))) → (m : List (Entry P)) → F m ≡ H (drop (skipped n m) m)
  by_skipping n F H none more [] = none
  by_skipping n F H none more (e ∷ m) =
      let i = by_skipping n F H none more m in
      ⊎_elim
      (λ t. more e m ∙ cond-true _ _ _ t ∙ i ∙ sym (ap H (drop_split _ (skipped n m) e m ∙ cond-true _ _ _ t)))
      (λ t. more e m ∙ cond-false _ _ _ t ∙ sym (ap H (drop_split _ (skipped n m) e m ∙ cond-false _ _ _ t)))
      (cases_Bool (ltb e.last n))

  -- and so is one that keeps them
  pub by_keeping : (n : ℕ) (F H : List (Entry P) → List (Entry P)) → F [] ≡ H [] → ((e : Entry P) (m : List (Entry P)) → F (e ∷ m) ≡ cond (ltb e.last n) (e ∷ F m) (H (e ∷ m))) → (m : List (Entry P)) → F m ≡ take (skipped n m) m ++ H (drop (skipped n m) m)
  by_keeping n F H none more [] = none
  by_keeping n F H none more (e ∷ m) =
      let i = by_keeping n F H none more m in
      let both : Bool → List (Entry P) = λ b. cond b (e ∷ take (skipped n m) m) [] ++ H (cond b (drop (skipped n m) m) (e ∷ m)) in
      let ways : take (skipped n (e ∷ m)) (e ∷ m) ++ H (drop (skipped n (e ∷ m)) (e ∷ m)) ≡ both (ltb e.last n) = λ j. take_split (ltb e.last n) (skipped n m) e m j ++ H (drop_split (ltb e.last n) (skipped n m) e m j) in
      ⊎_elim
      (λ t. more e m ∙ cond-true _ _ _ t ∙ ap (λ r. e ∷ r) i ∙ sym (ways ∙ ap both t))
      (λ t. more e m ∙ cond-false _ _ _ t ∙ sym (ways ∙ ap both t))
      (cases_Bool (ltb e.last n))

  module _ (b h : ℕ) (m : List (Entry P)) (w : Between b h m) where
    pub found_is : (n : ℕ) → found n m ≡ at n m
    unfolding found at
    found_is n = ap (λ k. head_at n (drop k m)) (place_skipped n b h m w) ∙ sym (by_skipping n (at n) (head_at n) refl (λ _ _. refl) m)

    pub taken_is : (f l : ℕ) → taken f l m ≡ hit f l m
    unfolding taken hit
    taken_is f l = ap (λ k. head_hit f l (drop k m)) (place_skipped f b h m w) ∙ sym (by_skipping f (hit f l) (head_hit f l) refl (λ _ _. refl) m)

    pub uncovered_is_gap : (f l : ℕ) → uncovered f l m ≡ gap f l m
    unfolding uncovered gap
    uncovered_is_gap f l =
        ap (λ k. gap f l (drop k m)) (place_skipped f b h m w)
        ∙ sym (by_skipping f (gap f l) (gap f l) refl (λ e r. ⊎_elim (λ t. cond-true _ _ _ t ∙ sym (cond-true _ _ _ t)) (λ t. sym (cond-false _ _ _ t)) (cases_Bool (ltb e.last f))) m)

    pub failing_is_gap_by : (t : P → Bool) (f l : ℕ) → gap_by t f l (rest f m) ≡ gap_by t f l m
    unfolding gap_by
    failing_is_gap_by t f l =
        ap (λ k. gap_by t f l (drop k m)) (place_skipped f b h m w)
        ∙ sym (by_skipping f (gap_by t f l) (gap_by t f l) refl (λ e r. ⊎_elim (λ c. cond-true _ _ _ c ∙ sym (cond-true _ _ _ c)) (λ c. sym (cond-false _ _ _ c)) (cases_Bool (ltb e.last f))) m)

    pub laid_is_lay : (x : Entry P) → laid x m ≡ lay x m
    unfolding laid lay
    laid_is_lay x =
        ap (λ k. take k m ++ (x ∷ drop k m)) (place_skipped x.first b h m w)
        ∙ sym (by_keeping x.first (lay x) (λ r. x ∷ r) refl (λ _ _. refl) m)

  -- where every payload passes, only what no entry covers fails
  pub gap_by_any : (f l : ℕ) (m : List (Entry P)) → gap_by (λ _. true) f l m ≡ gap f l m
  unfolding gap_by gap
  gap_by_any f l [] = refl
  gap_by_any f l (e ∷ m) =
      let skip = gap_by_any f l m in
      let on = gap_by_any (e.last + 1) l m in
      λ i. cond (ltb e.last f) (skip i) (cond (or_none (ltb f e.first) i) (Some f) (cond (ltb e.last l) (on i) None))

  -- what the entry where the halving stops answers
  module _ (b h : ℕ) (m : List (Entry P)) (w : Between b h m) (n i : ℕ) (is : i ≡ place n m) where
    stopped : i ≡ skipped n m
    stopped = is ∙ place_skipped n b h m w

    pub at_next : at n m ≡ option_and_then (holding n) (slice_get m i)
    unfolding at
    at_next = by_get n (at n) (option_and_then (holding n)) refl (λ _ _. refl) m ∙ ap (λ k. option_and_then (holding n) (slice_get m k)) (sym stopped)

    pub hit_next : (l : ℕ) → hit n l m ≡ option_and_then (meeting n l) (slice_get m i)
    unfolding hit
    hit_next l = by_get n (hit n l) (option_and_then (meeting n l)) refl (λ _ _. refl) m ∙ ap (λ k. option_and_then (meeting n l) (slice_get m k)) (sym stopped)

    -- a cut there, and how many entries it adds
    pub cut_here : cut n m ≡ take i m ++ head_cut n (drop i m)
    unfolding cut
    cut_here = by_keeping n (cut n) (head_cut n) refl (λ _ _. refl) m ∙ ap (λ k. take k m ++ head_cut n (drop k m)) (sym stopped)

    pub cuts_here : cuts n m ≡ head_cuts n (drop i m)
    unfolding cuts
    cuts_here = by_skipping n (cuts n) (head_cuts n) refl (λ _ _. refl) m ∙ ap (λ k. head_cuts n (drop k m)) (sym stopped)

    pub cuts_next : cuts n m ≡ option_map_or (λ e. cond (ltb e.first n) 1 0) (slice_get m i) 0
    unfolding cuts
    cuts_next =
        let next : Option (Entry P) → ℕ = λ o. option_map_or (λ e. cond (ltb e.first n) 1 0) o 0 in
        by_get n (cuts n) next refl (λ _ _. refl) m ∙ ap (λ k. next (slice_get m k)) (sym stopped)

  pub lay_here : (b h : ℕ) (m : List (Entry P)) → Between b h m → (x : Entry P) (i : ℕ) → i ≡ place x.first m → insert m i x ≡ lay x m
  unfolding lay
  lay_here b h m w x i is =
      ap (λ k. insert m k x) (is ∙ place_skipped x.first b h m w)
      ∙ sym (by_keeping x.first (lay x) (λ r. x ∷ r) refl (λ _ _. refl) m)

  pub between_drop : (b h : ℕ) (m : List (Entry P)) (i : ℕ) → Between b h m → Between 0 h (drop i m)
  between_drop b h m zero w = between_weaker 0 b h m (omega arith) w
  between_drop b h [] (suc i) w = tt
  between_drop b h (e ∷ m) (suc i) w = between_drop (e.last + 1) h m i w.3

  -- looking for l + 1 from where the halving for f stops finds the same place
  skipped_on : (f l : ℕ) (m : List (Entry P)) → f ≤ l → skipped f m + skipped (l + 1) (drop (skipped f m) m) ≡ skipped (l + 1) m
  skipped_on f l [] le = refl
  skipped_on f l (e ∷ m) le =
      let i = skipped_on f l m le in
      let both : Bool → ℕ = λ b. cond b (suc (skipped f m)) 0 + skipped (l + 1) (drop (cond b (suc (skipped f m)) 0) (e ∷ m)) in
      ⊎_elim
      (λ lt. ap both (lt-ltb e.last f lt) ∙ omega (arith, i) ∙ sym (cond-true _ _ _ (lt-ltb e.last (l + 1) (omega arith))))
      (λ ge. ap both (le-ltb e.last f ge) ∙ zero-add _)
      (cases_lt e.last f)

  -- a cut further on leaves the place for f
  pub skipped_cut : (f l : ℕ) (m : List (Entry P)) → f ≤ l → skipped f (cut (l + 1) m) ≡ skipped f m
  unfolding cut
  skipped_cut f l [] le = refl
  skipped_cut f l (e ∷ m) le = let i = skipped_cut f l m le in grind (arith, nat_tests)

  unpaid : (f l : ℕ) (p : P) (b h : ℕ) (m : List (Entry P)) → Between b h m → l < b → m ≡ map (repaid f l p) m
  unpaid f l p b h [] w lt = refl
  unpaid f l p b h (e ∷ m) w lt = let i = unpaid f l p (e.last + 1) h m w.3 (omega arith) in grind (arith, nat_tests)

  paid_rising : (f l : ℕ) (p : P) (b h : ℕ) (m : List (Entry P)) → Between b h m → f ≤ b → paid l p m ≡ map (repaid f l p) m
  unfolding paid
  paid_rising f l p b h [] w le = refl
  paid_rising f l p b h (e ∷ m) w le =
      let i = paid_rising f l p (e.last + 1) h m w.3 (omega arith) in
      ⊎_elim
      (λ t. let begun = leb-true e.first l t in grind (arith, nat_tests))
      (λ t. let late = leb-false e.first l t in let j = unpaid f l p e.first h (e ∷ m) (omega arith, w.1, w.2, w.3) (omega arith) in cond-false _ _ _ t ∙ j)
      (cases_Bool (leb e.first l))

  paid_cut : (f l : ℕ) (p : P) (b h : ℕ) (m : List (Entry P)) → Between b h m → take (skipped f m) (cut f m) ++ head_paid f l p (drop (skipped f m) (cut f m)) ≡ map (repaid f l p) (cut f m)
  unfolding cut
  paid_cut f l p b h [] w = refl
  paid_cut f l p b h (e ∷ m) w =
      let i = paid_cut f l p (e.last + 1) h m w.3 in
      let both : Bool → List (Entry P) → List (Entry P) = λ t r. take (cond t (suc (skipped f m)) 0) r ++ head_paid f l p (drop (cond t (suc (skipped f m)) 0) r) in
      ⊎_elim
      (λ t. let less = ltb-true e.last f t in
      let c : cut f (e ∷ m) ≡ e ∷ cut f m = cond-true _ _ _ t in
      let kept : e ≡ repaid f l p e = grind (arith, nat_tests) in
      (λ j. both (t j) (c j)) ∙ (λ j. kept j ∷ i j) ∙ ap (map (repaid f l p)) (sym c))
      (λ t. let more = ltb-false e.last f t in
      let c : cut f (e ∷ m) ≡ split f e m = cond-false _ _ _ t in
      (λ j. both (t j) (c j)) ∙ split_paid more (cases_Bool (ltb e.first f)) ∙ ap (map (repaid f l p)) (sym c))
      (cases_Bool (ltb e.last f))
    where
      split_paid : f ≤ e.last → (ltb e.first f ≡ true) ⊎ (ltb e.first f ≡ false) → head_paid f l p (split f e m) ≡ map (repaid f l p) (split f e m)
      split_paid more (inl t) =
          let begun = ltb-true e.first f t in
          let c : split f e m ≡ below f e ∷ from f e ∷ m = cond-true _ _ _ t in
          let kept : below f e ≡ repaid f l p (below f e) = grind (arith, nat_tests) in
          let r = paid_rising f l p f h (from f e ∷ m) (omega arith, more, w.2, w.3) (omega arith) in
          ap (head_paid f l p) c ∙ cond-true _ _ _ t ∙ (λ j. kept j ∷ r j) ∙ ap (map (repaid f l p)) (sym c)
      split_paid more (inr t) =
          let late = ltb-false e.first f t in
          let c : split f e m ≡ e ∷ m = cond-false _ _ _ t in
          let r = paid_rising f l p e.first h (e ∷ m) (omega arith, w.1, w.2, w.3) late in
          ap (head_paid f l p) c ∙ cond-false _ _ _ t ∙ r ∙ ap (map (repaid f l p)) (sym c)

  module _ (f l b h : ℕ) (m : List (Entry P)) (w : Between b h m) (le : f ≤ l) where
    ending_skipped : ending f l m ≡ skipped (l + 1) m
    unfolding ending
    ending_skipped =
        let at : place f m ≡ skipped f m = place_skipped f b h m w in
        ap (λ k. k + place (l + 1) (drop k m)) at
        ∙ ap (λ k. skipped f m + k) (place_skipped (l + 1) 0 h (drop (skipped f m) m) (between_drop b h m (skipped f m) w))
        ∙ skipped_on f l m le

    -- among the entries from the place for f on, the place for l + 1
    pub place_on : place f m + place (l + 1) (rest f m) ≡ place (l + 1) m
    unfolding ending
    place_on = ending_skipped ∙ sym (place_skipped (l + 1) b h m w)

    pub cuts_in_are : cuts_in f l m ≡ cuts_of f l m
    unfolding cuts_in cuts_of cuts
    cuts_in_are =
        let a : head_cuts f (rest f m) ≡ cuts f m = ap (λ k. head_cuts f (drop k m)) (place_skipped f b h m w) ∙ sym (by_skipping f (cuts f) (head_cuts f) refl (λ _ _. refl) m) in
        let c : head_cuts (l + 1) (drop (ending f l m) m) ≡ cuts (l + 1) m = ap (λ k. head_cuts (l + 1) (drop k m)) ending_skipped ∙ sym (by_skipping (l + 1) (cuts (l + 1)) (head_cuts (l + 1)) refl (λ _ _. refl) m) in
        λ j. a j + c j

    cut_at_is : (n k : ℕ) (r : List (Entry P)) → k ≡ skipped n r → cut_at k n r ≡ cut n r
    unfolding cut_at cut
    cut_at_is n k r is = ap (λ i. take i r ++ head_cut n (drop i r)) is ∙ sym (by_keeping n (cut n) (head_cut n) refl (λ _ _. refl) r)

    pub changed_is_change : (p : P) → changed f l p m ≡ change f l p m
    unfolding changed change paid_at
    changed_is_change p =
        let start : place f m ≡ skipped f (cut (l + 1) m) = place_skipped f b h m w ∙ sym (skipped_cut f l m le) in
        let last : cut_at (ending f l m) (l + 1) m ≡ cut (l + 1) m = cut_at_is (l + 1) (ending f l m) m ending_skipped in
        let first : cut_at (place f m) f (cut (l + 1) m) ≡ cut f (cut (l + 1) m) = cut_at_is f (place f m) (cut (l + 1) m) start in
        ap (λ r. paid_at (place f m) f l p (cut_at (place f m) f r)) last
        ∙ ap (paid_at (place f m) f l p) first
        ∙ ap (λ k. paid_at k f l p (cut f (cut (l + 1) m))) start
        ∙ paid_cut f l p b h (cut (l + 1) m) (between_cut (l + 1) b h m w)
