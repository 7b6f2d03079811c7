-- How many entries in front begin before a position, and what a cut adds to them. Assumes nothing.
use Rattle.std.proofs.Common.{◌≡◌, ℕ, zero, suc, ◌+◌, ◌<◌, ◌^◌, ◌≤◌, true, false, cond, ltb, List, [], ◌∷◌, length, get_or, sym, refl, ap, ◌∙◌, subst, arith}
use Rattle.std.proofs.lemmas.Bool.{le-ltb, ltb-false, cond_both}
use Rattle.std.proofs.lemmas.Bool.Decides.{nat_tests}
use Rattle.range_map.specs.declared.entry.Entry.{Entry}
use Rattle.range_map.specs.Begun.{BeginBelow}
use Rattle.range_map.specs.Halving.{place}
use Rattle.range_map.specs.Plain.{Between, Rising, cut, cuts}
use Rattle.range_map.proofs.Cutting.{between_cut}
use Rattle.range_map.proofs.Joining.{lasts_from, place_skipped, skipped, skipped_cut}

module _ {P : Type 0} where
  abbrev pub begin : ℕ → List (Entry P) → ℕ
  begin n [] = 0
  begin n (e ∷ m) = cond (ltb e.first n) (suc (begin n m)) 0

  one_before : (n : ℕ) (e : Entry P) (m : List (Entry P)) (i : ℕ) → ltb e.first n ≡ true → BeginBelow n m i → BeginBelow n (e ∷ m) (suc i)
  one_before n e m i t s = (before, behind)
    where
      before : (k : ℕ) (d : Entry P) → 0 ≤ k → k < suc i → ltb (get_or (e ∷ m) k d).first n ≡ true
      before zero d low high = t
      before (suc k) d low high = s.0 k d (omega arith) (omega arith)

      behind : (k : ℕ) (d : Entry P) → suc i ≤ k → k < suc (length m) → ltb (get_or (e ∷ m) k d).first n ≡ false
      behind zero d low high = absurd (omega arith)
      behind (suc k) d low high = s.1 k d (omega arith) (omega arith)

  none_before : (n h : ℕ) (e : Entry P) (m : List (Entry P)) → n ≤ e.first → Between e.first h (e ∷ m) → BeginBelow n (e ∷ m) 0
  none_before n h e m late w = (λ k d low high. absurd (omega arith), λ k d low high. le-ltb _ n (omega (arith, (lasts_from e.first h (e ∷ m) k d w high).0)))

  pub begin_below : (n b h : ℕ) (m : List (Entry P)) → Between b h m → BeginBelow n m (begin n m)
  begin_below n b h [] w = (λ k d low high. absurd (omega arith), λ k d low high. absurd (omega arith))
  begin_below n b h (e ∷ m) w =
      cond_both {A = ℕ} (ltb e.first n) _ _ (BeginBelow n (e ∷ m))
      (λ t. one_before n e m (begin n m) t (begin_below n (e.last + 1) h m w.3))
      (λ t. none_before n h e m (ltb-false e.first n t) (omega arith, w.1, w.2, w.3))

  -- after a cut before n: those that end before it, and what the cut adds
  pub begin_cut : (n b h : ℕ) (m : List (Entry P)) → Between b h m → begin n (cut n m) ≡ skipped n m + cuts n m
  unfolding cut cuts
  begin_cut n b h [] w = refl
  begin_cut n b h (e ∷ m) w = let i = begin_cut n (e.last + 1) h m w.3 in grind (arith, nat_tests)

  -- after a cut further in front: what that cut adds
  pub begin_further : (f l b h : ℕ) (m : List (Entry P)) → Between b h m → f ≤ l → begin (l + 1) (cut f m) ≡ begin (l + 1) m + cuts f m
  unfolding cut cuts
  begin_further f l b h [] w le = refl
  begin_further f l b h (e ∷ m) w le = let i = begin_further f l (e.last + 1) h m w.3 le in grind (arith, nat_tests)

  pub begin_few : (n : ℕ) (m : List (Entry P)) → begin n m ≤ length m
  begin_few n [] = omega arith
  begin_few n (e ∷ m) = let i = begin_few n m in cond_both {A = ℕ} (ltb e.first n) _ _ (λ k. k ≤ suc (length m)) (λ _. omega arith) (λ _. omega arith)

  -- a cut before l + 1 and then one before f: which entries begin within f to l then
  module _ (f l : ℕ) (m : List (Entry P)) (w : Rising m) (le : f ≤ l) where
    once : Rising (cut (l + 1) m)
    once = between_cut (l + 1) 0 (2 ^ 62) m w

    -- the first cut leaves the place of f
    pub place_cut : place f m ≡ place f (cut (l + 1) m)
    place_cut = place_skipped f 0 (2 ^ 62) m w ∙ sym (skipped_cut f l m le) ∙ sym (place_skipped f 0 (2 ^ 62) (cut (l + 1) m) once)

    low_is : begin f (cut f (cut (l + 1) m)) ≡ place f m + cuts f (cut (l + 1) m)
    low_is = begin_cut f 0 (2 ^ 62) (cut (l + 1) m) once ∙ ap (λ k. k + cuts f (cut (l + 1) m)) (skipped_cut f l m le ∙ sym (place_skipped f 0 (2 ^ 62) m w))

    high_is : begin (l + 1) (cut f (cut (l + 1) m)) ≡ place (l + 1) m + cuts (l + 1) m + cuts f (cut (l + 1) m)
    high_is =
        begin_further f l 0 (2 ^ 62) (cut (l + 1) m) once le
        ∙ ap (λ k. k + cuts f (cut (l + 1) m)) (begin_cut (l + 1) 0 (2 ^ 62) m w ∙ ap (λ k. k + cuts (l + 1) m) (sym (place_skipped (l + 1) 0 (2 ^ 62) m w)))

    pub past_few : place (l + 1) m + cuts (l + 1) m ≤ length (cut (l + 1) m)
    past_few =
        let few = begin_few (l + 1) (cut (l + 1) m) in
        let same = begin_cut (l + 1) 0 (2 ^ 62) m w in
        let at = place_skipped (l + 1) 0 (2 ^ 62) m w in
        omega arith

    twice : Rising (cut f (cut (l + 1) m))
    twice = between_cut f 0 (2 ^ 62) (cut (l + 1) m) once

    module _ (r : List (Entry P)) (is : r ≡ cut f (cut (l + 1) m)) (i : ℕ) where
      pub low_there : i ≡ place f m + cuts f (cut (l + 1) m) → BeginBelow f r i × (i ≤ length r)
      low_there at =
          let here : i ≡ begin f r = at ∙ sym (ap (begin f) is ∙ low_is) in
          (subst (BeginBelow f r) (sym here) (begin_below f 0 (2 ^ 62) r (subst Rising (sym is) twice)), let few = begin_few f r in omega arith)

      pub high_there : i ≡ place (l + 1) m + cuts (l + 1) m + cuts f (cut (l + 1) m) → BeginBelow (l + 1) r i × (i ≤ length r)
      high_there at =
          let here : i ≡ begin (l + 1) r = at ∙ sym (ap (begin (l + 1)) is ∙ high_is) in
          (subst (BeginBelow (l + 1) r) (sym here) (begin_below (l + 1) 0 (2 ^ 62) r (subst Rising (sym is) twice)), let few = begin_few (l + 1) r in omega arith)
