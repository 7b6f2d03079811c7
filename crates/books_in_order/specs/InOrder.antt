-- What a book in key order means, and what its rows keep. Assumes nothing.
use Rattle.std.specs.Prelude.{◌≡◌, ℕ, ◌≤◌, min, true, List, length, take, Some}
use Rattle.std.specs.Coded.{le_prop}
use mathlib.Core.Bool.{Bool-set}
use native.Mathlib.Nat.{ℕ_set}
use Rattle.std.specs.declared.cmp.Ordering.{Ordering}
use Rattle.figures.specs.Limits.{most_members}
use Rattle.books.specs.Ledger.{Ledger, apart}
use Rattle.books_in_order.specs.KeyOrder.{rises}
use Rattle.books.specs.Rows.{ordered, Once}
use Rattle.books.specs.declared.rows.Row.{Row}

-- the book of the first n slots
abbrev pub keyed_capacity : {P : Type 0} → List (Row P) → ℕ
keyed_capacity slots = min (length slots) most_members

abbrev pub keyed_ledger : {P : Type 0} → List (Row P) → ℕ → Ledger P
keyed_ledger slots n = record { capacity = keyed_capacity slots; members = ordered Some n (take n slots) }

-- what the first n slots keep: n is within the capacity, each running number occurs once, keys rise, and no two members
-- have one key
pub record KeyedSound {P : Type 0} (order : P → P → Ordering) (slots : List (Row P)) (n : ℕ) : Type 0 where
  pub within : n ≤ keyed_capacity slots
  pub each : Once Some n (take n slots)
  pub rising : rises order (take n slots) ≡ true
  pub alone : apart order (ordered Some n (take n slots)) ≡ true

-- it has one proof at most, so that two books over the same rows are the same book
pub KeyedSound-prop : {P : Type 0} (order : P → P → Ordering) (slots : List (Row P)) (n : ℕ) → IsProp (KeyedSound order slots n)
KeyedSound-prop order slots n x y = λ i. record {
  within = le_prop x.within y.within i;
  each = λ j. ℕ_set _ _ (x.each j) (y.each j) i;
  rising = Bool-set _ _ x.rising y.rising i;
  alone = Bool-set _ _ x.alone y.alone i;
}
