-- What a hashed book means, and what its slots keep. Assumes nothing.
use Rattle.std.specs.Prelude.{◌≡◌, ℕ, ◌≤◌, min, true, List, length, Option}
use Rattle.std.specs.Coded.{le_prop}
use mathlib.Core.Bool.{Bool-set}
use native.Mathlib.Nat.{ℕ_set}
use Rattle.std.specs.declared.cmp.Ordering.{Ordering}
use Rattle.figures.specs.Limits.{most_members}
use Rattle.books.specs.Ledger.{Ledger, apart}
use Rattle.books_hashed.specs.Probing.{Settled}
use Rattle.books.specs.Rows.{ordered, Once}
use Rattle.books.specs.declared.rows.Row.{Row}

abbrev pub held : {P : Type 0} → Option (Row P) → Option (Row P)
held slot = slot

-- the table of n rows
abbrev pub table_capacity : {P : Type 0} → List (Option (Row P)) → ℕ
table_capacity slots = min (length slots) most_members

abbrev pub table_ledger : {P : Type 0} → List (Option (Row P)) → ℕ → Ledger P
table_ledger slots n = record { capacity = table_capacity slots; members = ordered held n slots }

-- what a table of n rows keeps: n is within the capacity, each running number occurs once, every key's probe ends at it,
-- and no two members have one key
pub record TableSound {P : Type 0} (order : P → P → Ordering) (spread : P → ℕ) (slots : List (Option (Row P))) (n : ℕ) : Type 0 where
  pub within : n ≤ table_capacity slots
  pub each : Once held n slots
  pub settled : Settled order spread slots
  pub alone : apart order (ordered held n slots) ≡ true

-- it has one proof at most, so that two books over the same slots are the same book
pub TableSound-prop : {P : Type 0} (order : P → P → Ordering) (spread : P → ℕ) (slots : List (Option (Row P))) (n : ℕ) → IsProp (TableSound order spread slots n)
TableSound-prop order spread slots n x y = λ i. record {
  within = le_prop x.within y.within i;
  each = λ j. ℕ_set _ _ (x.each j) (y.each j) i;
  settled = λ p. Bool-set _ _ (x.settled p) (y.settled p) i;
  alone = Bool-set _ _ x.alone y.alone i;
}
