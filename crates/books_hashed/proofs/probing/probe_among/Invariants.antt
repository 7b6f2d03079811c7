use Rattle.std.proofs.Common.{◌≡◌, ℕ, ◌+◌, ◌-◌, ◌%◌, length}
use Rattle.books.specs.Ledger.{matches}
use Rattle.books_hashed.specs.Probing.{key_at, probe_from}
use Rattle.books_hashed.proofs.probing.probe_among.Given as goal

-- what is left to probe ends as the probe from the first slot of the range does
abbrev pub invariant-loop-at : goal.invariant-loop-at
invariant-loop-at g l =
    (n : ℕ) → probe_from (matches g.K.Key.order l.key) (key_at l.slots) (length l.slots) (l.at % length l.slots) (l.to - l.at + n) ≡ probe_from (matches g.K.Key.order l.key) (key_at l.slots) (length l.slots) l.from (l.to - l.from + n)
