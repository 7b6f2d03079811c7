-- What the walks over entries say of each number, and what keeps every number of an entry at one origin. Assumes nothing.
use Rattle.std.proofs.Common.{◌≡◌, ℕ, ◌+◌, ◌^◌, ◌<◌, ◌≤◌, Bool, true, ltb, leb, List, [], ◌∷◌, map, Some, None, Option, sym, refl, ap, ◌∙◌, subst, ⊎_elim, arith}
use Rattle.std.proofs.lemmas.Bool.{both_ways, cases_lt, cases_Bool, lt-ltb, le-ltb, ltb-true, ltb-false, le-leb, leb-true, cond-true, cond-false, cond_both}
use Rattle.std.proofs.lemmas.Bool.Decides.{nat_tests}
use Rattle.std.specs.Option.{option_map}
use Rattle.figures.specs.declared.accounts.Account.{Account}
use Rattle.range_map.specs.Counts.{passes}
use Rattle.range_map.specs.Placed.{payload_found}
use Rattle.range_map.specs.Plain.{Between, Rising, at, gap_by, payload_at, below, from, cut, lay, remade}
use Rattle.range_map.specs.declared.entry.Entry.{Entry}
use Rattle.range_map.proofs.Cutting.{at_below}
use Rattle.range_map.proofs.Joining.{failing_is_gap_by, found_is}
use Rattle.register.specs.Holdings.{held_by, unheld, under_offer, first_overdue, or_next}
use Rattle.register.specs.Terms.{overdue}
use Rattle.register.specs.declared.rows.Origin.{Origin}
use Rattle.register.specs.declared.rows.Standing.{Standing}
use Rattle.reckoning.proofs.Invariant.{Each}

module _ {P : Type 0} where
  -- what the map answers is what the position has
  pub found_payload : (n : ℕ) (m : List (Entry P)) → Rising m → payload_found n m ≡ payload_at n m
  found_payload n m w = ap (option_map (λ e. e.payload)) (found_is 0 (2 ^ 62) m w n)

  pub at_first : (n : ℕ) (e : Entry P) (m : List (Entry P)) → e.first ≤ n → n ≤ e.last → at n (e ∷ m) ≡ Some e
  unfolding at
  at_first n e m le ge = cond-false _ _ _ (le-ltb _ n ge) ∙ cond-true _ _ _ (le-leb _ n le)

  pub at_later : (n : ℕ) (e : Entry P) (m : List (Entry P)) → e.last < n → at n (e ∷ m) ≡ at n m
  unfolding at
  at_later n e m lt = cond-true _ _ _ (lt-ltb _ n lt)

  gap_skip : (t : P → Bool) (f l : ℕ) (e : Entry P) (m : List (Entry P)) → e.last < f → gap_by t f l (e ∷ m) ≡ gap_by t f l m
  unfolding gap_by
  gap_skip t f l e m lt = cond-true _ _ _ (lt-ltb _ f lt)

  -- where the walk does not skip an entry and meets no gap, the entry has begun and passes
  gap_here : (t : P → Bool) (f l : ℕ) (e : Entry P) (m : List (Entry P)) → f ≤ e.last → gap_by t f l (e ∷ m) ≡ None → (e.first ≤ f) × (t e.payload ≡ true) × (e.last < l → gap_by t (e.last + 1) l m ≡ None)
  unfolding gap_by
  gap_here t f l e m ge h =
      let g = sym (cond-false _ _ _ (le-ltb _ f ge)) ∙ h in
      (grind (arith, nat_tests), grind (arith, nat_tests), λ lt. grind (arith, nat_tests))

  gap_at_end : (t : P → Bool) (f l : ℕ) → gap_by t f l [] ≡ None → ⊥
  unfolding gap_by
  gap_at_end t f l h = let z : ◌≡◌ {A = ℕ} 0 1 = cc in omega arith

  -- a walk from f to l that meets no gap: every position on the way has a payload that passes
  pub gap_none : (t : P → Bool) (f l : ℕ) (m : List (Entry P)) → gap_by t f l m ≡ None → (n : ℕ) → f ≤ n → n ≤ l → passes t (payload_at n m) ≡ true
  gap_none t f l [] h n le ge = absurd (gap_at_end t f l h)
  gap_none t f l (e ∷ m) h n le ge =
      ⊎_elim
      (λ lt. ap (λ o. passes t (option_map (λ x. x.payload) o)) (at_later n e m (omega arith)) ∙ gap_none t f l m (sym (gap_skip t f l e m lt) ∙ h) n le ge)
      (λ here.
      let walk = gap_here t f l e m here h in
      ⊎_elim
      (λ past.
      ap (λ o. passes t (option_map (λ x. x.payload) o)) (at_later n e m past)
      ∙ gap_none t (e.last + 1) l m (walk.2 (omega arith)) n (omega arith) ge)
      (λ inside. ap (λ o. passes t (option_map (λ x. x.payload) o)) (at_first n e m (omega (arith, walk.0)) inside) ∙ walk.1)
      (cases_lt e.last n))
      (cases_lt e.last f)

or_next_lem : (day : Option ℕ) (number : ℕ) (next : Option (ℕ × ℕ)) → or_next day number next ≡ None → (day ≡ None) × (next ≡ None)
or_next_lem None number next h = (refl, h)
or_next_lem (Some day) number next h = let z : ◌≡◌ {A = ℕ} 0 1 = cc in absurd (omega arith)

overdue_here : (k date : ℕ) (os : List (Entry Origin)) (e : Entry Standing) (m : List (Entry Standing)) → first_overdue k date os (e ∷ m) ≡ None → (under_offer k e ≡ true → overdue date (payload_found e.first os) ≡ None) × (first_overdue k date os m ≡ None)
unfolding first_overdue
overdue_here k date os e m h =
    ⊎_elim
    (λ b. let both = or_next_lem (overdue date (payload_found e.first os)) e.first (first_overdue k date os m) (sym (cond-true _ _ _ b) ∙ h) in (λ _. both.0, both.1))
    (λ b. (λ t. absurd (both_ways _ b t), sym (cond-false _ _ _ b) ∙ h))
    (cases_Bool (under_offer k e))

pub unheld_none : (a : Account) (f l : ℕ) (m : List (Entry Standing)) → Rising m → unheld a f l m ≡ None → (n : ℕ) → f ≤ n → n ≤ l → passes (held_by a) (payload_at n m) ≡ true
unfolding unheld
unheld_none a f l m w h = gap_none (held_by a) f l m (sym (failing_is_gap_by 0 (2 ^ 62) m w (held_by a) f l) ∙ h)

module _ {P : Type 0} where
  head_at : (n : ℕ) (x e : Entry P) (m : List (Entry P)) → n ≤ x.last → at n (x ∷ m) ≡ Some e → (x ≡ e) × (x.first ≤ n)
  unfolding at
  head_at n x e m ge h =
      let here = sym (cond-false _ _ _ (le-ltb _ n ge)) ∙ h in
      ⊎_elim
      (λ b. let same = sym (cond-true _ _ _ b) ∙ here in (cc, leb-true _ n b))
      (λ b. let none = sym (cond-false _ _ _ b) ∙ here in let z : ◌≡◌ {A = ℕ} 0 1 = cc in absurd (omega arith))
      (cases_Bool (leb x.first n))

  at_nothing : (n : ℕ) (e : Entry P) → at n [] ≡ Some e → ⊥
  unfolding at
  at_nothing n e h = let z : ◌≡◌ {A = ℕ} 0 1 = cc in omega arith

  -- a fact of every entry is one of the entry that covers a position
  pub each_at : (Q : Entry P → Type 0) (m : List (Entry P)) → Each Q m → (n : ℕ) (e : Entry P) → at n m ≡ Some e → Q e
  each_at Q [] q n e h = absurd (at_nothing n e h)
  each_at Q (x ∷ m) q n e h =
      ⊎_elim
      (λ past. each_at Q m q.1 n e (sym (at_later n x m past) ∙ h))
      (λ here. subst Q (head_at n x e m here h).0 q.0)
      (cases_lt x.last n)

  pub each_from : (Q R : Entry P → Type 0) → ((e : Entry P) → Q e → R e) → (m : List (Entry P)) → Each Q m → Each R m
  each_from Q R to [] q = tt
  each_from Q R to (e ∷ m) q = (to e q.0, each_from Q R to m q.1)

  -- two facts together
  pub each_both : (Q R S : Entry P → Type 0) → ((e : Entry P) → Q e → R e → S e) → (m : List (Entry P)) → Each Q m → Each R m → Each S m
  each_both Q R S to [] q r = tt
  each_both Q R S to (e ∷ m) q r = (to e q.0 r.0, each_both Q R S to m q.1 r.1)

  pub each_remade : (g : Entry P → P) (Q : Entry P → Type 0) → ((e : Entry P) → Q e → Q (remade g e)) → (m : List (Entry P)) → Each Q m → Each Q (map (remade g) m)
  each_remade g Q to [] q = tt
  each_remade g Q to (e ∷ m) q = (to e q.0, each_remade g Q to m q.1)

  -- of both parts of an entry that is cut inside
  pub each_cut : (n : ℕ) (Q : Entry P → Type 0) → ((e : Entry P) → e.first < n → n ≤ e.last → Q e → Q (below n e) × Q (from n e)) → (m : List (Entry P)) → Each Q m → Each Q (cut n m)
  unfolding cut
  each_cut n Q to [] q = tt
  each_cut n Q to (e ∷ m) q =
      cond_both {A = List (Entry P)} (ltb e.last n) _ _ (Each Q) (λ _. (q.0, each_cut n Q to m q.1))
      (λ r. cond_both {A = List (Entry P)} (ltb e.first n) _ _ (Each Q)
      (λ b. let parts = to e (ltb-true _ n b) (ltb-false _ n r) q.0 in (parts.0, (parts.1, q.1)))
      (λ _. q))

  pub each_lay : (x : Entry P) (Q : Entry P → Type 0) → Q x → (m : List (Entry P)) → Each Q m → Each Q (lay x m)
  unfolding lay
  each_lay x Q here [] q = (here, tt)
  each_lay x Q here (e ∷ m) q =
      cond_both {A = List (Entry P)} (ltb e.last x.first) _ _ (Each Q) (λ _. (q.0, each_lay x Q here m q.1)) (λ _. (here, q))

  -- every entry lies below a bound past which no position has a payload
  pub each_below : (b h bound : ℕ) (m : List (Entry P)) → Between b h m → ((n : ℕ) → bound < n → payload_at n m ≡ None) → Each (λ e. (b ≤ e.first) × (e.first ≤ e.last) × (e.last ≤ bound)) m
  each_below b h bound [] w none = tt
  each_below b h bound (e ∷ m) w none = (
    (w.0, w.1, ⊎_elim (λ past. absurd (has_payload e.last e (ap (option_map (λ x. x.payload)) (sym (at_first e.last e m w.1 (omega arith))) ∙ none e.last past))) (λ le. le) (cases_lt bound e.last)),
    each_from (λ x. (e.last + 1 ≤ x.first) × (x.first ≤ x.last) × (x.last ≤ bound)) (λ x. (b ≤ x.first) × (x.first ≤ x.last) × (x.last ≤ bound)) (λ x q. (omega (arith, q.0, w), q.1, q.2)) m
        (each_below (e.last + 1) h bound m w.3 (λ n past. later n past)),
  )
    where
      has_payload : (n : ℕ) (x : Entry P) → option_map (λ y. y.payload) (Some x) ≡ None → ⊥
      has_payload n x q = let z : ◌≡◌ {A = ℕ} 0 1 = cc in omega arith

      later : (n : ℕ) → bound < n → payload_at n m ≡ None
      later n past = ⊎_elim (λ after. ap (option_map (λ x. x.payload)) (sym (at_later n e m after)) ∙ none n past) (λ within. ap (option_map (λ x. x.payload)) (at_below n (e.last + 1) h m w.3 (omega arith))) (cases_lt e.last n)

-- no entry under the offer is past its term
pub none_overdue : (k date : ℕ) (os : List (Entry Origin)) (m : List (Entry Standing)) → first_overdue k date os m ≡ None → Each (λ e. under_offer k e ≡ true → overdue date (payload_found e.first os) ≡ None) m
none_overdue k date os [] h = tt
none_overdue k date os (e ∷ m) h =
    let here = overdue_here k date os e m h in
    (here.0, none_overdue k date os m here.1)
