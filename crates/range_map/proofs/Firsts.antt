-- The first taken and the first uncovered position are what their names say. Assumes nothing.
use Rattle.std.proofs.Common.{◌≡◌, ℕ, zero, suc, ◌+◌, ◌<◌, ◌≤◌, max, true, false, ltb, leb, ◌⊎◌, List, [], ◌∷◌, is_some, IfSome, Some, None, Option, refl, ap, ◌∙◌, inl, inr, ⊎_elim, arith}
use Rattle.std.proofs.lemmas.Bool.{cases_lt, lt-ltb, le-ltb, ltb-true, ltb-false, le-leb, lt-leb, leb-true, leb-false, and_from, and_left, and_right, cond-true, cond-false, cond_both}
use Rattle.range_map.specs.declared.entry.Entry.{Entry}
use Rattle.range_map.specs.Map.{nth}
use Rattle.range_map.specs.Plain.{at, hit, gap, within, Between}
use Rattle.range_map.specs.Laws.{Covering, FirstTaken, FirstOpen}

outside : (n f l : ℕ) → (n < f) ⊎ (l < n) → within f l n ≡ false
outside n f l (inl lt) = and_left _ _ (lt-leb f n lt)
outside n f l (inr lt) = and_right _ _ (lt-leb n l lt)

module _ {P : Type 0} (e : Entry P) (m : List (Entry P)) where
  -- what a position has, by how it lies to the first entry
  at_past : (n : ℕ) → e.last < n → is_some (at n (e ∷ m)) ≡ is_some (at n m)
  unfolding at
  at_past n lt = ap is_some (cond-true _ _ _ (lt-ltb _ n lt))

  at_in : (n : ℕ) → n ≤ e.last → e.first ≤ n → is_some (at n (e ∷ m)) ≡ true
  unfolding at
  at_in n reach begun = ap is_some (cond-false _ _ _ (le-ltb _ n reach) ∙ cond-true _ _ _ (le-leb _ n begun))

  at_early : (n : ℕ) → n ≤ e.last → n < e.first → is_some (at n (e ∷ m)) ≡ false
  unfolding at
  at_early n reach late = ap is_some (cond-false _ _ _ (le-ltb _ n reach) ∙ cond-false _ _ _ (lt-leb _ n late))

  -- an entry that ends before f does not matter
  taken_on : (f l : ℕ) → e.last < f → (r : Option ℕ) → FirstTaken f l m r → FirstTaken f l (e ∷ m) r
  taken_on f l less None free = λ n a b. at_past n (omega arith) ∙ free n a b
  taken_on f l less (Some k) t = (t.0, t.1, at_past k (omega (arith, t.0)) ∙ t.2, λ n a b. at_past n (omega arith) ∙ t.3 n a b)

  open_on : (f l : ℕ) → e.last < f → (r : Option ℕ) → FirstOpen f l m r → FirstOpen f l (e ∷ m) r
  open_on f l less None all = λ n a b. at_past n (omega arith) ∙ all n a b
  open_on f l less (Some k) t = (t.0, t.1, at_past k (omega (arith, t.0)) ∙ t.2, λ n a b. at_past n (omega arith) ∙ t.3 n a b)

  -- covered up to the end of e, and from there on as the rest is
  covered_or : (f : ℕ) → e.first ≤ f → (n : ℕ) → f ≤ n → (e.last + 1 ≤ n → is_some (at n m) ≡ true) → is_some (at n (e ∷ m)) ≡ true
  covered_or f begun n a later = ⊎_elim (λ lt. at_past n lt ∙ later (omega arith)) (λ ge. at_in n ge (omega arith)) (cases_lt e.last n)

  open_from : (f l : ℕ) → f ≤ e.last → e.first ≤ f → (r : Option ℕ) → FirstOpen (e.last + 1) l m r → FirstOpen f l (e ∷ m) r
  open_from f l reach begun None all = λ n a b. covered_or f begun n a (λ c. all n c b)
  open_from f l reach begun (Some k) t =
      (omega (arith, t.0), t.1, at_past k (omega (arith, t.0)) ∙ t.2, λ n a b. covered_or f begun n a (λ c. t.3 n c b))

module _ {P : Type 0} where
  nth_after : (b h : ℕ) (m : List (Entry P)) (i : ℕ) → Between b h m → IfSome (nth i m) (λ e. b ≤ e.first)
  nth_after b h [] i w = tt
  nth_after b h (e ∷ m) zero w = w.0
  nth_after b h (e ∷ m) (suc i) w = weaker (nth i m) (nth_after (e.last + 1) h m i w.3)
    where
      weaker : (o : Option (Entry P)) → IfSome o (λ x. e.last + 1 ≤ x.first) → IfSome o (λ x. b ≤ x.first)
      weaker None k = tt
      weaker (Some x) k = omega arith

  pub at_covering : (n b h : ℕ) (m : List (Entry P)) → Between b h m → Covering n m (at n m)
  unfolding at
  at_covering n b h [] w = λ i. tt
  at_covering n b h (e ∷ m) w =
      cond_both {A = Option (Entry P)} (ltb e.last n) _ _ (Covering n (e ∷ m))
      (λ t. on (at n m) (ltb-true e.last n t) (at_covering n (e.last + 1) h m w.3))
      (λ t. let reach = ltb-false e.last n t in
      cond_both {A = Option (Entry P)} (leb e.first n) _ _ (Covering n (e ∷ m))
      (λ s. (and_from _ _ s (le-leb n e.last reach), (0, refl)))
      (λ s i. early (leb-false e.first n s) reach i))
    where
      none : e.last < n → ((i : ℕ) → IfSome (nth i m) (λ x. within x.first x.last n ≡ false)) → (i : ℕ) → IfSome (nth i (e ∷ m)) (λ x. within x.first x.last n ≡ false)
      none past all zero = outside n e.first e.last (inr past)
      none past all (suc i) = all i

      on : (o : Option (Entry P)) → e.last < n → Covering n m o → Covering n (e ∷ m) o
      on None past all = none past all
      on (Some x) past c = (c.0, (suc c.1.0, c.1.1))

      beyond : n ≤ e.last → (o : Option (Entry P)) → IfSome o (λ x. e.last + 1 ≤ x.first) → IfSome o (λ x. within x.first x.last n ≡ false)
      beyond reach None k = tt
      beyond reach (Some x) k = outside n x.first x.last (inl (omega arith))

      early : n < e.first → n ≤ e.last → (i : ℕ) → IfSome (nth i (e ∷ m)) (λ x. within x.first x.last n ≡ false)
      early late reach zero = outside n e.first e.last (inl late)
      early late reach (suc i) = beyond reach (nth i m) (nth_after (e.last + 1) h m i w.3)

  pub hit_first : (f l b h : ℕ) (m : List (Entry P)) → Between b h m → FirstTaken f l m (hit f l m)
  unfolding hit at
  hit_first f l b h [] w = λ n a c. refl
  hit_first f l b h (e ∷ m) w =
      cond_both {A = Option ℕ} (ltb e.last f) _ _ (FirstTaken f l (e ∷ m))
      (λ t. taken_on e m f l (ltb-true e.last f t) (hit f l m) (hit_first f l (e.last + 1) h m w.3))
      (λ t. let reach = ltb-false e.last f t in
      cond_both {A = Option ℕ} (leb (max f e.first) l) _ _ (FirstTaken f l (e ∷ m))
      (λ s. let low = leb-true (max f e.first) l s in
      (omega arith, low, at_in e m (max f e.first) (omega arith) (omega arith), λ n a c. at_early e m n (omega arith) (omega arith)))
      (λ s. let high = leb-false (max f e.first) l s in λ n a c. at_early e m n (omega arith) (omega arith)))

  pub gap_first : (f l : ℕ) (m : List (Entry P)) → f ≤ l → FirstOpen f l m (gap f l m)
  unfolding gap at
  gap_first f l [] le = (omega arith, le, refl, λ n a c. absurd (omega arith))
  gap_first f l (e ∷ m) le =
      cond_both {A = Option ℕ} (ltb e.last f) _ _ (FirstOpen f l (e ∷ m))
      (λ t. open_on e m f l (ltb-true e.last f t) (gap f l m) (gap_first f l m le))
      (λ t. let reach = ltb-false e.last f t in
      cond_both {A = Option ℕ} (ltb f e.first) _ _ (FirstOpen f l (e ∷ m))
      (λ s. let late = ltb-true f e.first s in (omega arith, le, at_early e m f reach late, λ n a c. absurd (omega arith)))
      (λ s. let begun = ltb-false f e.first s in
      cond_both {A = Option ℕ} (ltb e.last l) _ _ (FirstOpen f l (e ∷ m))
      (λ u. open_from e m f l reach begun (gap (e.last + 1) l m) (gap_first (e.last + 1) l m (omega (arith, ltb-true e.last l u))))
      (λ u. let far = ltb-false e.last l u in λ n a c. at_in e m n (omega arith) (omega arith))))
