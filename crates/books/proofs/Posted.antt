-- What a posting leaves, from the totals that were read. Assumes nothing.
use Rattle.std.proofs.Common.{◌≡◌, ℕ, Bool, true, false, is_some, Some, None, sym, ap, ◌∙◌}
use Rattle.std.proofs.lemmas.Bool.{cond-true}
use Rattle.books.specs.Ledger.{Ledger, present, totals, changed}
use Rattle.books.specs.Changes.{moved, moved_both, posted}
use Rattle.books.specs.Faults.{write_after}
use Rattle.books.specs.declared.changes.Change.{Change}
use Rattle.books.proofs.Ledgers.{changed_absent, changed_by_totals, totals_present}

module _ {P : Type 0} (is : P → Bool) (one other : Change) (l : Ledger P) where
  pub posted_absent : present is l.members ≡ false → l ≡ posted is one other l
  posted_absent h = ap (λ ms. record { capacity = l.capacity; members = ms }) (sym (changed_absent is (moved one) (moved other) l.members h))

  pub absent_from_none : None ≡ totals is l.members → present is l.members ≡ false
  absent_from_none h = sym (totals_present is l.members) ∙ ap is_some (sym h)

  pub present_from_some : (t : ℕ × ℕ) → Some t ≡ totals is l.members → present is l.members ≡ true
  present_from_some t h = sym (totals_present is l.members) ∙ ap is_some (sym h)

  -- the moved totals were written
  pub posted_written : (after : Ledger P) (t new : ℕ × ℕ) → Some t ≡ totals is l.members → new ≡ moved_both one other t → after ≡ write_after is new.0 new.1 l → after ≡ posted is one other l
  posted_written after t new h p e =
      e
      ∙ cond-true (present is l.members) _ _ (present_from_some t h)
      ∙ (λ i. record { capacity = l.capacity; members = changed is (λ _. (p i).0) (λ _. (p i).1) l.members })
      ∙ ap (λ ms. record { capacity = l.capacity; members = ms }) (changed_by_totals is (moved one) (moved other) t.0 t.1 l.members (sym h))
