-- What the moves and writes of an edit leave in the slots. Assumes nothing.
use Rattle.std.proofs.Common.{◌≡◌, ℕ, zero, suc, ◌+◌, ◌-◌, ◌^◌, ◌<◌, ◌≤◌, Bool, ltb, cond, Bor, MatchOption, Option, Some, None, subst, List, [], ◌∷◌, ◌++◌, map, length, get_or, take, drop, set, sym, refl, ap, ◌∙◌, append_assoc, arith, length-drop, length-take, get_or-take}
use lib.Seq.{take-set-lt}
use Rattle.std.specs.Bool.{then_some}
use borrow.Rule.Slice.PartMut.{put_mid}
use Rattle.std.specs.List.{insert, between}
use Rattle.std.specs.Option.{option_and_then, option_copied}
use Rattle.std.specs.Slice.{IsItemAt}
use Rattle.std.proofs.lemmas.List.{drop_all, take-take, take_more_set, drop-set-lt, take-append-drop, length-take-le}
use Rattle.std.proofs.lemmas.List.Edits.{length-between}
use Rattle.std.proofs.lemmas.Slice.{take-put_mid, between_is}
use Rattle.std.proofs.lemmas.Bool.{ltb-true, ltb-false, le-leb, lt-leb, lt-ltb, le-ltb, and_from, and_left, and_right, cond-true, cond-false, cond_both}
use Rattle.range_map.specs.declared.entry.Entry.{Entry}
use Rattle.range_map.specs.Begun.{BeginBelow}
use Rattle.range_map.specs.Lent.{paid_within}
use Rattle.range_map.specs.Halving.{place}
use Rattle.range_map.specs.Map.{entry_of}
use Rattle.range_map.specs.Placed.{head_cut, head_cuts}
use Rattle.range_map.specs.Plain.{Between, below, cut, cuts, from, remade, repaid}
use Rattle.range_map.proofs.Joining.{cut_here, cuts_here}
use Rattle.range_map.proofs.Stops.{drop_read, filtered}

module _ {X : Type 0} where
  set_front : (xs ys : List X) (x : X) → length xs ≡ 1 → set (xs ++ ys) 0 x ≡ x ∷ ys
  set_front [] ys x one = absurd (omega arith)
  set_front (a ∷ []) ys x one = refl
  set_front (a ∷ b ∷ xs) ys x one = absurd (omega arith)

  pub shifted : (xs ys : List X) (x : X) → 0 < length xs → ys ≡ drop (length xs - 1) xs ++ take (length xs - 1) xs → set ys 0 x ≡ x ∷ take (length xs - 1) xs
  shifted xs ys x some is =
      let one : length (drop (length xs - 1) xs) ≡ 1 = simp length-drop (omega arith) in
      ap (λ l. set l 0 x) is ∙ set_front (drop (length xs - 1) xs) (take (length xs - 1) xs) x one

  -- the part from i to one past the entries in use, moved up by one under x
  pub moved_in : (xs : List X) (used i : ℕ) (x : X) (part : List X) → i ≤ used → used < length xs → part ≡ x ∷ take (length (between i (used + 1) xs) - 1) (between i (used + 1) xs) → take (used + 1) (put_mid i (used + 1 - i) xs part) ≡ insert (take used xs) i x
  moved_in xs used i x part le room is =
      let long : length (between i (used + 1) xs) ≡ used + 1 - i = length-between xs i (used + 1) (omega arith) in
      let tail : take (length (between i (used + 1) xs) - 1) (between i (used + 1) xs) ≡ drop i (take used xs)
      = ap (λ k. take (k - 1) (between i (used + 1) xs)) long
      ∙ take-take (used + 1 - i - 1) (used + 1 - i) (drop i xs) (omega arith)
      ∙ ap (λ k. take k (drop i xs)) (omega arith)
      ∙ between_is xs i used in
      let whole : part ≡ x ∷ drop i (take used xs) = is ∙ ap (λ l. x ∷ l) tail in
      let size : used + 1 ≡ i + length part = omega (arith, ap length whole, length-drop i (take used xs), length-take used xs) in
      take-put_mid i (used + 1 - i) xs part (used + 1) size (omega arith)
      ∙ sym (λ j. take-take i used xs le j ++ sym whole j)

  -- an element read from the slots, below those in use
  pub read_in : (xs : List X) (used i : ℕ) (e : X) → i < used → e ≡ get_or xs i e → e ≡ get_or (take used xs) i e
  read_in xs used i e lt read = read ∙ sym (get_or-take used xs i e lt)

  -- a write at i, then one more at i + 1
  pub two_for_one : (m : List X) (i : ℕ) (a b : X) → i < length m → insert (set m i a) (i + 1) b ≡ take i m ++ (a ∷ b ∷ drop (i + 1) m)
  two_for_one m i a b lt =
      (λ j. take_more_set m i a lt j ++ (b ∷ drop-set-lt (i + 1) m i a (omega arith) j))
      ∙ append_assoc (take i m) (a ∷ []) (b ∷ drop (i + 1) m)

module _ {P : Type 0} (f l : ℕ) (p : P) where
  before : (e : Entry P) → e.first < f → repaid f l p e ≡ e
  before e lt = ap (λ q. record { first = e.first; last = e.last; payload = q }) (cond-false _ _ _ (and_left _ _ (lt-leb f e.first lt)))

  behind : (e : Entry P) → l < e.first → repaid f l p e ≡ e
  behind e lt = ap (λ q. record { first = e.first; last = e.last; payload = q }) (cond-false _ _ _ (and_right _ _ (lt-leb e.first l lt)))

  inside : (e : Entry P) → f ≤ e.first → e.first ≤ l → repaid f l p e ≡ entry_of e.first e.last p
  inside e low high = ap (λ q. record { first = e.first; last = e.last; payload = q }) (cond-true _ _ _ (and_from _ _ (le-leb f e.first low) (le-leb e.first l high)))

  -- the entries that begin in the range are those from low to high
  pub pay_is : (xs : List (Entry P)) (used low high : ℕ) → low ≤ high → high ≤ used → used ≤ length xs → BeginBelow f (take used xs) low → BeginBelow (l + 1) (take used xs) high → take used (paid_within low high p xs) ≡ map (repaid f l p) (take used xs)
  pay_is xs zero zero zero le few fits s t = refl
  pay_is xs zero zero (suc high) le few fits s t = absurd (omega arith)
  pay_is xs zero (suc low) high le few fits s t = absurd (omega arith)
  pay_is [] (suc used) low high le few fits s t = absurd (omega arith)
  pay_is (e ∷ xs) (suc used) zero zero le few fits s t =
      let more = pay_is xs used zero zero (omega arith) (omega arith) (omega arith) (λ k d low high. absurd (omega arith), λ k d low high. s.1 (suc k) d (omega arith) (omega arith)) (λ k d low high. absurd (omega arith), λ k d low high. t.1 (suc k) d (omega arith) (omega arith)) in
      λ j. sym (behind e (omega (arith, ltb-false e.first (l + 1) (t.1 0 e (omega arith) (omega arith))))) j ∷ more j
  pay_is (e ∷ xs) (suc used) zero (suc high) le few fits s t =
      let more = pay_is xs used zero high (omega arith) (omega arith) (omega arith) (λ k d low high. absurd (omega arith), λ k d low high. s.1 (suc k) d (omega arith) (omega arith)) (λ k d low high. t.0 (suc k) d (omega arith) (omega arith), λ k d low high. t.1 (suc k) d (omega arith) (omega arith)) in
      let here = inside e (ltb-false e.first f (s.1 0 e (omega arith) (omega arith))) (omega (arith, ltb-true e.first (l + 1) (t.0 0 e (omega arith) (omega arith)))) in
      let one : suc high - 0 ≡ suc high = omega arith in
      let none : high - 0 ≡ high = omega arith in
      ap (λ n. take (suc used) (map (remade (λ _. p)) (take n (e ∷ xs)) ++ drop high xs)) one
      ∙ ap (λ n. entry_of e.first e.last p ∷ take used (map (remade (λ _. p)) (take n xs) ++ drop high xs)) (sym none)
      ∙ (λ j. sym here j ∷ more j)
  pay_is (e ∷ xs) (suc used) (suc low) zero le few fits s t = absurd (omega arith)
  pay_is (e ∷ xs) (suc used) (suc low) (suc high) le few fits s t =
      let more = pay_is xs used low high (omega arith) (omega arith) (omega arith) (λ k d low high. s.0 (suc k) d (omega arith) (omega arith), λ k d low high. s.1 (suc k) d (omega arith) (omega arith)) (λ k d low high. t.0 (suc k) d (omega arith) (omega arith), λ k d low high. t.1 (suc k) d (omega arith) (omega arith)) in
      let same : suc high - suc low ≡ high - low = omega arith in
      ap (λ n. e ∷ take used (take low xs ++ (map (remade (λ _. p)) (take n (drop low xs)) ++ drop high xs))) same
      ∙ (λ j. sym (before e (ltb-true e.first f (s.0 0 e (omega arith) (omega arith)))) j ∷ more j)

  pub low_high : (m : List (Entry P)) (low high : ℕ) → f ≤ l → low ≤ length m → BeginBelow f m low → BeginBelow (l + 1) m high → low ≤ high
  low_high [] low high le long s t = omega arith
  low_high (e ∷ m) zero high le long s t = omega arith
  low_high (e ∷ m) (suc low) zero le long s t =
      absurd (omega (arith, ltb-true e.first f (s.0 0 e (omega arith) (omega arith)), ltb-false e.first (l + 1) (t.1 0 e (omega arith) (omega arith))))
  low_high (e ∷ m) (suc low) (suc high) le long s t =
      let more = low_high m low high le (omega arith) (λ k d a b. s.0 (suc k) d (omega arith) (omega arith), λ k d a b. s.1 (suc k) d (omega arith) (omega arith)) (λ k d a b. t.0 (suc k) d (omega arith) (omega arith), λ k d a b. t.1 (suc k) d (omega arith) (omega arith)) in
      omega arith

-- a cut before n where its place i is among the entries in use
module _ {P : Type 0} (xs : List (Entry P)) (used i n : ℕ) (fits : used ≤ length xs) (w : Between 0 (2 ^ 62) (take used xs)) (is : i ≡ place n (take used xs)) where
  kept : (d : List (Entry P)) → drop i (take used xs) ≡ d → head_cut n d ≡ d → take used xs ≡ cut n (take used xs)
  kept d at whole =
      sym (take-append-drop i (take used xs)) ∙ ap (λ r. take i (take used xs) ++ r) (at ∙ sym whole ∙ ap (head_cut n) (sym at))
      ∙ sym (cut_here 0 (2 ^ 62) (take used xs) w n i is)

  counts : (d : List (Entry P)) (k : ℕ) → drop i (take used xs) ≡ d → head_cuts n d ≡ k → cuts n (take used xs) ≡ k
  counts d k at adds = cuts_here 0 (2 ^ 62) (take used xs) w n i is ∙ ap (head_cuts n) at ∙ adds

  cut_none : used ≤ i → (take used xs ≡ cut n (take used xs)) × (cuts n (take used xs) ≡ 0)
  cut_none past =
      let at = drop_all i (take used xs) (omega (arith, length-take-le used xs fits)) in
      (kept [] at refl, counts [] 0 at refl)

  module _ (e : Entry P) (lt : i < used) (read : e ≡ get_or xs i e) where
    here : drop i (take used xs) ≡ e ∷ drop (i + 1) (take used xs)
    here = drop_read (take used xs) i e (omega (arith, length-take-le used xs fits)) (read_in xs used i e lt read)

    cut_border : n ≤ e.first → (take used xs ≡ cut n (take used xs)) × (cuts n (take used xs) ≡ 0)
    cut_border begun =
        let t = le-ltb _ n begun in
        (kept _ here (cond-false _ _ _ t), counts _ 0 here (cond-false _ _ _ t))

    cut_adds : e.first < n → cuts n (take used xs) ≡ 1
    cut_adds begun = counts _ 1 here (cond-true _ _ _ (lt-ltb _ n begun))

    pub cut_inside : e.first < n → (x y : Entry P) → x ≡ below n e → y ≡ from n e → (ys : List (Entry P)) → ys ≡ insert (take used (set xs i x)) (i + 1) y → ys ≡ cut n (take used xs)
    cut_inside begun x y low high ys so =
        so ∙ (λ j. insert (take used (set xs i (low j))) (i + 1) (high j)) ∙ ap (λ l. insert l (i + 1) (from n e)) (take-set-lt used xs i (below n e) lt)
        ∙ two_for_one (take used xs) i (below n e) (from n e) (omega (arith, length-take-le used xs fits))
        ∙ ap (λ l. take i (take used xs) ++ l) (sym (ap (head_cut n) here ∙ cond-true _ _ _ (lt-ltb _ n begun)))
        ∙ sym (cut_here 0 (2 ^ 62) (take used xs) w n i is)

  -- what a read at i that keeps an entry begun before n tells
  pub read_there :
      (m : List (Entry P)) → m ≡ take used xs → (o : Option (Bor (Entry P))) → IsItemAt m i o → (c r r' : Option (Entry P)) → c ≡ option_copied o
      → (R : Entry P → Bool → Type 0) → ((e : Entry P) (b : Bool) → R e b → b ≡ ltb e.first n) → MatchOption c (r ≡ None) (λ e. (b : Bool) × R e b × (r ≡ then_some b e)) → r ≡ r'
      → MatchOption r' ((take used xs ≡ cut n (take used xs)) × (cuts n (take used xs) ≡ 0)) (λ e. (i < used) × (e ≡ get_or xs i e) × (e.first < n) × (cuts n (take used xs) ≡ 1))
  read_there m at o item c r r' is_c R told left is_r = subst Tells (sym (filtered (λ e. ltb e.first n) R c r told left ∙ ap (option_and_then _) is_c) ∙ is_r) (tells o (subst (λ k. IsItemAt k i o) at item))
    where
      Tells : Option (Entry P) → Type 0
      Tells r = MatchOption r ((take used xs ≡ cut n (take used xs)) × (cuts n (take used xs) ≡ 0)) (λ e. (i < used) × (e ≡ get_or xs i e) × (e.first < n) × (cuts n (take used xs) ≡ 1))

      tells : (o : Option (Bor (Entry P))) → IsItemAt (take used xs) i o → Tells (option_and_then (λ e. cond (ltb e.first n) (Some e) None) (option_copied o))
      tells None h = cut_none (omega (arith, length-take-le used xs fits, h.3))
      tells (Some x) h =
          let lt : i < used = omega (arith, length-take-le used xs fits, h.3.0) in
          let read : x.now ≡ get_or xs i x.now = h.1 ∙ get_or-take used xs i x.now lt in
          cond_both {A = Option (Entry P)} (ltb x.now.first n) _ _ Tells (λ t. let begun = ltb-true _ n t in (lt, read, begun, cut_adds x.now lt read begun)) (λ t. cut_border x.now lt read (ltb-false _ n t))
