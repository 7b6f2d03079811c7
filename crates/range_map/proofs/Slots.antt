-- Entries by index, and what a map's slots say of its entries in use. Assumes nothing.
use Rattle.std.proofs.Common.{◌≡◌, ℕ, zero, suc, ◌+◌, ◌≤◌, leb, cond, List, [], ◌∷◌, length, get_or, take, set, IfSome, Some, None, Option, sym, refl, ap, ◌∙◌, arith, MatchOption}
use Rattle.std.proofs.lemmas.Bool.{cond_both}
use Rattle.std.proofs.lemmas.Bool.Decides.{nat_tests}
use Rattle.range_map.specs.declared.entry.Entry.{Entry}
use Rattle.range_map.specs.Laws.{PlainRepay}
use Rattle.range_map.specs.Map.{nth, repaid_at}
use Rattle.range_map.specs.Placed.{paid}
use Rattle.range_map.specs.Plain.{Between, at, payload_at, within}

module _ {P : Type 0} where
  pub put_is : (m : List (Entry P)) (i : ℕ) (e : Entry P) (p : P) → set m i (record { first = (get_or m i e).first; last = (get_or m i e).last; payload = p }) ≡ repaid_at i p m
  put_is [] i e p = refl
  put_is (x ∷ m) zero e p = refl
  put_is (x ∷ m) (suc i) e p = ap (λ r. x ∷ r) (put_is m i e p)

  pub repaid_past : (m : List (Entry P)) (i : ℕ) (p : P) → length m ≤ i → m ≡ repaid_at i p m
  repaid_past [] i p past = refl
  repaid_past (x ∷ m) zero p past = absurd (omega arith)
  repaid_past (x ∷ m) (suc i) p past = ap (λ r. x ∷ r) (repaid_past m i p (omega arith))

  repaid_none : (m : List (Entry P)) (i : ℕ) (p : P) → nth i m ≡ None → m ≡ repaid_at i p m
  repaid_none [] i p none = refl
  repaid_none (x ∷ m) zero p none = absurd (let z : ◌≡◌ {A = ℕ} 0 1 = cc in omega arith)
  repaid_none (x ∷ m) (suc i) p none = ap (λ r. x ∷ r) (repaid_none m i p none)

  pub take_repaid : (used : ℕ) (m : List (Entry P)) (i : ℕ) (p : P) → take used (repaid_at i p m) ≡ repaid_at i p (take used m)
  take_repaid zero m i p = refl
  take_repaid (suc used) [] i p = refl
  take_repaid (suc used) (x ∷ m) zero p = refl
  take_repaid (suc used) (x ∷ m) (suc i) p = ap (λ r. x ∷ r) (take_repaid used m i p)

  pub length_repaid : (m : List (Entry P)) (i : ℕ) (p : P) → length (repaid_at i p m) ≡ length m
  length_repaid [] i p = refl
  length_repaid (x ∷ m) zero p = refl
  length_repaid (x ∷ m) (suc i) p = ap suc (length_repaid m i p)

  -- nor does a payload for all that begin in front change how many there are
  pub length_paid : (l : ℕ) (p : P) (m : List (Entry P)) → length (paid l p m) ≡ length m
  unfolding paid
  length_paid l p [] = refl
  length_paid l p (e ∷ m) =
      cond_both {A = List (Entry P)} (leb e.first l) _ _ (λ r. length r ≡ suc (length m)) (λ _. ap suc (length_paid l p m)) (λ _. refl)

  pub between_repaid : (b h : ℕ) (m : List (Entry P)) (i : ℕ) (p : P) → Between b h m → Between b h (repaid_at i p m)
  between_repaid b h [] i p w = tt
  between_repaid b h (e ∷ m) zero p w = w
  between_repaid b h (e ∷ m) (suc i) p w = (w.0, w.1, w.2, between_repaid (e.last + 1) h m i p w.3)

  -- the positions of the entry at i have p, and every other position what it had
  pub at_repaid : (n b h : ℕ) (m : List (Entry P)) (i : ℕ) (p : P) → Between b h m → IfSome (nth i m) (λ e. (b ≤ e.first) × (payload_at n (repaid_at i p m) ≡ cond (within e.first e.last n) (Some p) (payload_at n m)))
  unfolding at
  at_repaid n b h [] i p w = tt
  at_repaid n b h (e ∷ m) zero p w = (w.0, grind (arith, nat_tests))
  at_repaid n b h (e ∷ m) (suc i) p w = on (nth i m) (at_repaid n (e.last + 1) h m i p w.3)
    where
      on : (o : Option (Entry P)) → IfSome o (λ x. (e.last + 1 ≤ x.first) × (payload_at n (repaid_at i p m) ≡ cond (within x.first x.last n) (Some p) (payload_at n m))) → IfSome o (λ x. (b ≤ x.first) × (payload_at n (e ∷ repaid_at i p m) ≡ cond (within x.first x.last n) (Some p) (payload_at n (e ∷ m))))
      on None h = tt
      on (Some x) h = (omega arith, grind (arith, nat_tests))

  pub repaid_plain : (b h : ℕ) (m : List (Entry P)) (i : ℕ) (p : P) (m' : List (Entry P)) → Between b h m → m' ≡ repaid_at i p m → PlainRepay i p m m'
  repaid_plain b h m i p m' w is n =
      on (nth i m) refl (at_repaid n b h m i p w)
    where
      gone : nth i m ≡ None → m ≡ repaid_at i p m
      gone none = repaid_none m i p none

      on : (o : Option (Entry P)) → nth i m ≡ o → IfSome o (λ e. (b ≤ e.first) × (payload_at n (repaid_at i p m) ≡ cond (within e.first e.last n) (Some p) (payload_at n m))) → MatchOption o (payload_at n m' ≡ payload_at n m) (λ e. payload_at n m' ≡ cond (within e.first e.last n) (Some p) (payload_at n m))
      on None none h' = ap (payload_at n) (is ∙ sym (gone none))
      on (Some e) some h' = ap (payload_at n) is ∙ h'.1
