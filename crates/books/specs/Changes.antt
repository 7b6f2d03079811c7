-- What a posting does to a member's totals. Assumes nothing.
use Rattle.std.specs.Prelude.{ℕ, ◌+◌, ◌-◌, Bool}
use Rattle.books.specs.Ledger.{Ledger, total, changed_in}
use Rattle.books.specs.declared.changes.Change.{Change}
use Rattle.books.specs.declared.changes.Change.TheVariants.{Up, Down}

-- A total moves by a count and stops at 0 and at its limit.
abbrev pub moved : Change → ℕ → ℕ
moved (Up n) t = total (t + n)
moved (Down n) t = total (t - n)

abbrev pub moved_both : Change → Change → ℕ × ℕ → ℕ × ℕ
moved_both f s t = (moved f t.0, moved s t.1)

-- Both totals of the member of that key move; where there is none, nothing does.
abbrev pub posted : {P : Type 0} → (P → Bool) → Change → Change → Ledger P → Ledger P
posted is f s l = changed_in is (moved f) (moved s) l
