-- The answers of a book's calls, from the tests that decide them. Assumes nothing.
use Rattle.std.proofs.Common.{◌≡◌, ℕ, Bool, true, false, Ok, Err, sym, ap, ◌∙◌}
use Rattle.std.proofs.lemmas.Bool.{cond-true, cond-false}
use Rattle.figures.specs.declared.names.BookName.{BookName}
use Rattle.books.specs.Ledger.{Ledger, present, roomy, enrolled, written_in}
use Rattle.books.specs.Faults.{unless_refused, add_after, write_verdict, write_after}
use Rattle.books.specs.declared.faults.BookFault.TheVariants.{Present, Full, Absent}

module _ {P : Type 0} {named book : BookName} (is : P → Bool) (l : Ledger P) (name : book ≡ named) where
  pub refused_present : {T : Type 0} (ok : T) → present is l.members ≡ true → Err (Present book) ≡ unless_refused named is l ok
  refused_present ok h = ap (λ b. Err (Present b)) name ∙ sym (cond-true _ _ _ h)

  pub refused_full : {T : Type 0} (ok : T) → present is l.members ≡ false → roomy l ≡ false → Err (Full book) ≡ unless_refused named is l ok
  refused_full ok h r = ap (λ b. Err (Full b)) name ∙ sym (cond-false _ _ _ h ∙ cond-false _ _ _ r)

  pub refused_absent : present is l.members ≡ false → Err (Absent book) ≡ write_verdict named is l
  refused_absent h = ap (λ b. Err (Absent b)) name ∙ sym (cond-false _ _ _ h)

module _ {P : Type 0} (is : P → Bool) (l : Ledger P) where
  pub allowed : {T : Type 0} (named : BookName) (ok : T) → present is l.members ≡ false → roomy l ≡ true → Ok ok ≡ unless_refused named is l ok
  allowed named ok h r = sym (cond-false _ _ _ h ∙ cond-true _ _ _ r)

  pub added : (k : P) → present is l.members ≡ false → roomy l ≡ true → enrolled k l ≡ add_after is k l
  added k h r = sym (cond-false _ _ _ h ∙ cond-true _ _ _ r)

  pub written : (f s : ℕ) → present is l.members ≡ true → written_in is f s l ≡ write_after is f s l
  written f s h = sym (cond-true _ _ _ h)

  pub written_answer : (named : BookName) → present is l.members ≡ true → Ok tt ≡ write_verdict named is l
  written_answer named h = sym (cond-true _ _ _ h)

  pub unwritten : (f s : ℕ) → present is l.members ≡ false → l ≡ write_after is f s l
  unwritten f s h = sym (cond-false _ _ _ h)
