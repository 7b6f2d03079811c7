-- Entries by where they begin.
use Rattle.std.specs.Prelude.{◌≡◌, ℕ, true, false, List, nat_lt}
use Rattle.std.specs.List.Sorted.{IsPartitionPoint}
use Rattle.range_map.specs.declared.entry.Entry.{Entry}

-- i parts m into the entries that begin before n and those that do not
abbrev pub BeginBelow : {P : Type 0} → ℕ → List (Entry P) → ℕ → Type 0
BeginBelow n m i = IsPartitionPoint (λ e. nat_lt e.first n ≡ true) (λ e. nat_lt e.first n ≡ false) m i
