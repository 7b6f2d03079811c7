-- A member's totals after a member joins and after totals change. Assumes nothing.
use Rattle.std.proofs.Common.{◌≡◌, ℕ, ◌+◌, ◌≤◌, Bool, true, false, cond, is_some, Some, None, Option, unwrap_or, sym, refl, ap, ◌∙◌, ⊎_elim, arith}
use Rattle.std.proofs.lemmas.Bool.{both_ways, cases_Bool, cond-true, cond-false}
use Rattle.std.specs.Option.{option_map}
use Rattle.figures.specs.Limits.{most_total}
use Rattle.books.specs.Changes.{moved, posted}
use Rattle.books.specs.Ledger.{Ledger, present, totals, total, newcomer, enrolled, changed_in}
use Rattle.books.specs.declared.changes.Change.{Change}
use Rattle.books.specs.declared.changes.Change.TheVariants.{Up, Down}
use Rattle.books.proofs.Ledgers.{totals_changed, totals_changed_other, totals_present, totals_push}
use Rattle.reckoning.specs.Agreement.{totals_of}

module _ {P : Type 0} (is : P → Bool) where
  none_if_absent : (o : Option (ℕ × ℕ)) → is_some o ≡ false → o ≡ None
  none_if_absent None h = refl
  none_if_absent (Some t) h = absurd (both_ways true h refl)

  -- a member that joins has totals 0, as one that is absent
  pub totals_joined : (k : P) (l : Ledger P) → totals_of is (enrolled k l) ≡ totals_of is l
  totals_joined k l =
      ap (λ o. unwrap_or o (0, 0)) (totals_push is l.members (newcomer k))
      ∙ ⊎_elim
      (λ b. ap (λ o. unwrap_or o (0, 0)) (cond-true _ _ _ b))
      (λ b.
      let none = none_if_absent (totals is l.members) (totals_present is l.members ∙ b) in
      ap (λ o. unwrap_or o (0, 0)) (cond-false _ _ _ b) ∙ nothing (is k) ∙ sym (ap (λ o. unwrap_or o (0, 0)) none))
      (cases_Bool (present is l.members))
    where
      nothing : (b : Bool) → ◌≡◌ {A = ℕ × ℕ} (unwrap_or (cond b (Some (0, 0)) None) (0, 0)) (0, 0)
      nothing true = refl
      nothing false = refl

  abbrev first : Ledger P → ℕ
  first l = (totals_of is l).0

  abbrev second : Ledger P → ℕ
  second l = (totals_of is l).1

  change_cases : (f s : ℕ → ℕ) (o : Option (ℕ × ℕ)) → unwrap_or (option_map (λ t. (total (f t.0), total (s t.1))) o) (0, 0) ≡ cond (is_some o) (total (f (unwrap_or o (0, 0)).0), total (s (unwrap_or o (0, 0)).1)) (unwrap_or o (0, 0))
  change_cases f s None = refl
  change_cases f s (Some t) = refl

  pub totals_changed_in : (f s : ℕ → ℕ) (l : Ledger P) → totals_of is (changed_in is f s l) ≡ cond (present is l.members) (total (f (totals_of is l).0), total (s (totals_of is l).1)) (totals_of is l)
  totals_changed_in f s l =
      ap (λ o. unwrap_or o (0, 0)) (totals_changed is f s l.members)
      ∙ change_cases f s (totals is l.members)
      ∙ ap (λ b. cond b (total (f (totals_of is l).0), total (s (totals_of is l).1)) (totals_of is l)) (totals_present is l.members)

  pub totals_changed_elsewhere : (other : P → Bool) → ((k : P) → other k ≡ true → is k ≡ false) → (f s : ℕ → ℕ) (l : Ledger P) → totals_of is (changed_in other f s l) ≡ totals_of is l
  totals_changed_elsewhere other differ f s l = ap (λ o. unwrap_or o (0, 0)) (totals_changed_other other f s is differ l.members)

  -- without a member both totals are 0
  pub absent_0 : (l : Ledger P) → present is l.members ≡ false → ◌≡◌ {A = ℕ × ℕ} (totals_of is l) (0, 0)
  absent_0 l h = ap (λ o. unwrap_or o (0, 0)) (none_if_absent (totals is l.members) (totals_present is l.members ∙ h))

-- how one total moves
pub record Moves (known : Bool) (c : Change) (old new : ℕ) : Type 0 where
  pub few : old ≤ most_total
  pub still_few : new ≤ most_total
  pub rises : (n : ℕ) → c ≡ Up n → new ≡ old + n
  pub falls : (n : ℕ) → c ≡ Down n → old ≡ new + n
  pub zero : known ≡ false → (old ≡ 0) × (new ≡ 0)

-- a count that rises by n, of a known member
pub up : (known : Bool) (n old new : ℕ) → known ≡ true → new ≤ most_total → new ≡ old + n → Moves known (Up n) old new
up known n old new is few sum = record {
  few = omega arith;
  still_few = few;
  rises = λ m e. let same : n ≡ m = cc in omega arith;
  falls = λ m e. let z : ◌≡◌ {A = ℕ} 0 1 = cc in absurd (omega arith);
  zero = λ b. absurd (both_ways _ b is);
}

pub down : (known : Bool) (n old new : ℕ) → (known ≡ false → old ≡ 0) → old ≤ most_total → old ≡ new + n → Moves known (Down n) old new
down known n old new absent few sum = record {
  few = few;
  still_few = omega arith;
  rises = λ m e. let z : ◌≡◌ {A = ℕ} 0 1 = cc in absurd (omega arith);
  falls = λ m e. let same : n ≡ m = cc in omega arith;
  zero = λ b. (absent b, omega (arith, absent b));
}

pub stays : (known : Bool) (old new : ℕ) → (known ≡ false → old ≡ 0) → old ≤ most_total → new ≡ old → Moves known (Up 0) old new
stays known old new absent few same = record {
  few = few;
  still_few = omega arith;
  rises = λ m e. let eq : 0 ≡ m = cc in omega arith;
  falls = λ m e. let z : ◌≡◌ {A = ℕ} 0 1 = cc in absurd (omega arith);
  zero = λ b. (absent b, omega (arith, absent b));
}

moved_is : (known : Bool) (c : Change) (old new : ℕ) → Moves known c old new → total (moved c old) ≡ new
moved_is known (Up n) old new m = omega (arith, m.rises n refl, m.still_few)
moved_is known (Down n) old new m = omega (arith, m.falls n refl, m.few)

-- both totals of a party after a posting
pub posted_to : {P : Type 0} (is : P → Bool) (f s : Change) (l : Ledger P) (new_first new_second : ℕ) → Moves (present is l.members) f (totals_of is l).0 new_first → Moves (present is l.members) s (totals_of is l).1 new_second → ((totals_of is (posted is f s l)).0 ≡ new_first) × ((totals_of is (posted is f s l)).1 ≡ new_second)
posted_to is f s l a b p q =
    let after = totals_changed_in is (moved f) (moved s) l in
    ⊎_elim
    (λ t. let both = after ∙ cond-true _ _ _ t in (ap (λ x. x.0) both ∙ moved_is _ f _ a p, ap (λ x. x.1) both ∙ moved_is _ s _ b q))
    (λ t. let both = after ∙ cond-false _ _ _ t in (ap (λ x. x.0) both ∙ omega (arith, p.zero t), ap (λ x. x.1) both ∙ omega (arith, q.zero t)))
    (cases_Bool (present is l.members))
