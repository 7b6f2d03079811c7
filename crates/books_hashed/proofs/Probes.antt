-- Probes: what their ends tell, and what a row more leaves of them. Assumes nothing.
use Rattle.std.proofs.Common.{◌≡◌, ℕ, zero, suc, ◌+◌, ◌<◌, ◌≤◌, Bool, true, false, Some, None, Option, sym, refl, ap, ◌∙◌, ⊎_elim, arith}
use Rattle.std.proofs.lemmas.Bool.{cases_lt, cases_eq, cases_Bool, cond-true, cond-false, lt-ltb, le-ltb, eqb-true, false≢true}
use Rattle.std.proofs.lemmas.Bool.Decides.{nat_tests}
use Rattle.books_hashed.specs.Probing.{next_slot, ends_or, landed, probe_from, found_at}
use Rattle.books_hashed.specs.declared.probing.Probe.{Probe}
use Rattle.books_hashed.specs.declared.probing.Probe.TheVariants.{Found, Free, Full}

pub next_within : (m p : ℕ) → p < m → next_slot m p < m
next_within m p h = grind (arith, nat_tests)

pub full_found : {q : ℕ} → Full ≡ Found q → ⊥
full_found e = let z : ◌≡◌ {A = ℕ} 0 1 = cc in omega arith

pub full_free : {q : ℕ} → Full ≡ Free q → ⊥
full_free e = let z : ◌≡◌ {A = ℕ} 0 1 = cc in omega arith

pub free_found : {p q : ℕ} → Free p ≡ Found q → ⊥
free_found e = let z : ◌≡◌ {A = ℕ} 0 1 = cc in omega arith

same_found : {p q : ℕ} → Found p ≡ Found q → p ≡ q
same_found e = cc

same_free : {p q : ℕ} → Free p ≡ Free q → p ≡ q
same_free e = cc

pub none_some : {P : Type 0} {k : P} → None ≡ Some k → ⊥
none_some e = let z : ◌≡◌ {A = ℕ} 0 1 = cc in omega arith

pub found_at_lem : (p : ℕ) (o : Probe) → found_at p o ≡ true → o ≡ Found p
found_at_lem p (Found q) h = ap Found (eqb-true q p h)
found_at_lem p (Free q) h = absurd (false≢true h)
found_at_lem p Full h = absurd (false≢true h)

module _ {P : Type 0} (is : P → Bool) (keys : ℕ → Option P) (m : ℕ) where
  -- one slot more
  pub landed_free : (p n : ℕ) → keys p ≡ None → probe_from is keys m p (suc n) ≡ Free p
  landed_free p n h = ap (λ o. landed is o p (probe_from is keys m (next_slot m p) n)) h

  pub landed_found : (p n : ℕ) (k : P) → keys p ≡ Some k → is k ≡ true → probe_from is keys m p (suc n) ≡ Found p
  landed_found p n k h t = ap (λ o. landed is o p (probe_from is keys m (next_slot m p) n)) h ∙ ap (λ o. ends_or o (probe_from is keys m (next_slot m p) n)) (cond-true (is k) (Some (Found p)) None t)

  pub landed_on : (p n : ℕ) (k : P) → keys p ≡ Some k → is k ≡ false → probe_from is keys m p (suc n) ≡ probe_from is keys m (next_slot m p) n
  landed_on p n k h t = ap (λ o. landed is o p (probe_from is keys m (next_slot m p) n)) h ∙ ap (λ o. ends_or o (probe_from is keys m (next_slot m p) n)) (cond-false (is k) (Some (Found p)) None t)

  -- The three ways that a step can go, for a fact G that follows in each.
  by_step : {G : Type 0} (p n : ℕ) (o : Probe) → probe_from is keys m p (suc n) ≡ o
      → (keys p ≡ None → o ≡ Free p → G)
      → ((k : P) → keys p ≡ Some k → is k ≡ true → o ≡ Found p → G)
      → ((k : P) → keys p ≡ Some k → is k ≡ false → probe_from is keys m (next_slot m p) n ≡ o → G)
      → G
  by_step {G} p n o e free found on = go (keys p) refl
    where
      go : (x : Option P) → keys p ≡ x → G
      go None h = free h (sym e ∙ landed_free p n h)
      go (Some k) h = ⊎_elim (λ t. found k h t (sym e ∙ landed_found p n k h t)) (λ t. on k h t (sym (landed_on p n k h t) ∙ e)) (cases_Bool (is k))

  -- a probe that found the key ended at it
  pub found_holds : (p n q : ℕ) → probe_from is keys m p n ≡ Found q → (k : P) × (keys q ≡ Some k) × (is k ≡ true)
  found_holds p zero q e = absurd (full_found e)
  found_holds p (suc n) q e =
      by_step p n (Found q) e
      (λ h o. absurd (free_found (sym o)))
      (λ k h t o. (k, ap keys (same_found o) ∙ h, t))
      (λ k h t r. found_holds (next_slot m p) n q r)

  pub free_vacant : (p n q : ℕ) → probe_from is keys m p n ≡ Free q → keys q ≡ None
  free_vacant p zero q e = absurd (full_free e)
  free_vacant p (suc n) q e =
      by_step p n (Free q) e
      (λ h o. ap keys (same_free o) ∙ h)
      (λ k h t o. absurd (free_found o))
      (λ k h t r. free_vacant (next_slot m p) n q r)

  pub free_within : (p n q : ℕ) → p < m → probe_from is keys m p n ≡ Free q → q < m
  free_within p zero q l e = absurd (full_free e)
  free_within p (suc n) q l e =
      by_step p n (Free q) e
      (λ h o. omega (arith, same_free o))
      (λ k h t o. absurd (free_found o))
      (λ k h t r. free_within (next_slot m p) n q (next_within m p l) r)

  -- A probe that ends at neither has passed every slot within its reach, round the end of the table too.
  pub full_taken : (p n v : ℕ) → p < m → v < m → probe_from is keys m p n ≡ Full → (p ≤ v → v < p + n) → (v < p → m + v < p + n) → keys v ≡ None → ⊥
  full_taken p zero v l w e ahead behind free = ⊎_elim (λ lt. absurd (omega (arith, behind lt))) (λ ge. absurd (omega (arith, ahead ge))) (cases_lt v p)
  full_taken p (suc n) v l w e ahead behind free =
      by_step p n Full e
      (λ h o. full_free o)
      (λ k h t o. full_found o)
      (λ k h t r.
      ⊎_elim
      (λ here. none_some (sym free ∙ ap keys here ∙ h))
      (λ away.
      ⊎_elim
      (λ inner.
      let on : next_slot m p ≡ p + 1 = cond-true _ _ _ (lt-ltb (p + 1) m inner) in
      full_taken (next_slot m p) n v (next_within m p l) w r (λ ge. omega (arith, ahead (omega arith))) (λ lt. omega (arith, behind (omega arith))) free)
      (λ last.
      let on : next_slot m p ≡ 0 = cond-false _ _ _ (le-ltb (p + 1) m last) in
      full_taken (next_slot m p) n v (next_within m p l) w r (λ ge. omega (arith, behind (omega arith))) (λ lt. absurd (omega arith)) free)
      (cases_lt (p + 1) m))
      (cases_eq v p))

-- Two tables that differ at most in slot q.
module _ {P : Type 0} (is : P → Bool) (keys keys' : ℕ → Option P) (m : ℕ) where
  pub probe_same : ((p : ℕ) → keys' p ≡ keys p) → (p n : ℕ) → probe_from is keys' m p n ≡ probe_from is keys m p n
  probe_same same p zero = refl
  probe_same same p (suc n) = λ i. landed is (same p i) p (probe_same same (next_slot m p) n i)

  module _ (q : ℕ) (vacant : keys q ≡ None) (others : (p : ℕ) → (p ≡ q → ⊥) → keys' p ≡ keys p) where
    taken_other : (p : ℕ) (k : P) → keys p ≡ Some k → keys' p ≡ Some k
    taken_other p k h = others p (λ same. none_some (sym vacant ∙ ap keys (sym same) ∙ h)) ∙ h

    -- a free slot that is taken is on the way of no probe that found its key
    pub keeps_found : (p n at : ℕ) → probe_from is keys m p n ≡ Found at → probe_from is keys' m p n ≡ Found at
    keeps_found p zero at e = absurd (full_found e)
    keeps_found p (suc n) at e =
        by_step is keys m p n (Found at) e
        (λ h o. absurd (free_found (sym o)))
        (λ k h t o. landed_found is keys' m p n k (taken_other p k h) t ∙ sym o)
        (λ k h t r. landed_on is keys' m p n k (taken_other p k h) t ∙ keeps_found (next_slot m p) n at r)

    -- the probe that ended there now finds its key there
    pub lands_free : (k : P) → keys' q ≡ Some k → is k ≡ true → (p n : ℕ) → probe_from is keys m p n ≡ Free q → probe_from is keys' m p n ≡ Found q
    lands_free k put mine p zero e = absurd (full_free e)
    lands_free k put mine p (suc n) e =
        by_step is keys m p n (Free q) e
        (λ h o. landed_found is keys' m p n k (ap keys' (sym (same_free o)) ∙ put) mine ∙ ap Found (sym (same_free o)))
        (λ x h t o. absurd (free_found o))
        (λ x h t r. landed_on is keys' m p n x (taken_other p x h) t ∙ lands_free k put mine (next_slot m p) n r)
