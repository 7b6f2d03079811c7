-- Whether a key has a running number is whether its book has it. Assumes nothing.
use Rattle.std.proofs.Common.{◌≡◌, ℕ, Bool, true, false, not, List, is_some, Some, None, Option, sym, ap, ◌∙◌}
use Rattle.figures.specs.declared.names.BookName.{BookName}
use Rattle.books.specs.Ledger.{Member, present, running_number}
use Rattle.books.specs.declared.faults.BookFault.TheVariants.{Absent}
use Rattle.books.proofs.Ledgers.{number_present}
use Rattle.register.specs.Checks.{in_book}
use Rattle.register.specs.declared.faults.Fault.{Fault}
use Rattle.register.specs.declared.faults.Fault.TheVariants.{Book}

module _ {P : Type 0} (is : P → Bool) (ms : List (Member P)) (name : BookName) (o : Option ℕ) (b : Bool) (read : o ≡ running_number is ms) (told : is_some o ≡ not b) where
  known : is_some o ≡ present is ms
  known = ap is_some read ∙ number_present is 1 ms

  pub absent : (f : Fault) → b ≡ true → f ≡ Book (Absent name) → Some f ≡ in_book name (present is ms)
  absent f t e = ap Some e ∙ ap (in_book name) (sym (told ∙ ap not t) ∙ known)

  pub there : b ≡ false → None ≡ in_book name (present is ms)
  there t = ap (in_book name) (sym (told ∙ ap not t) ∙ known)
