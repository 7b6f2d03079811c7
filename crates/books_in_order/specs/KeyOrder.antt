-- Rows in key order, and what looking for a key among them answers. Assumes nothing.
use Rattle.std.specs.Prelude.{◌≡◌, ℕ, ◌<◌, ◌≤◌, Bool, true, ◌&&◌, List, [], ◌∷◌, length, Ok, Err, Result, slice_index_or}
use Rattle.std.specs.declared.cmp.Ordering.TheVariants.{Less}
use Rattle.std.specs.declared.cmp.Ordering.{Ordering}
use Rattle.std.specs.Ordering.{is_lt}
use Rattle.books.specs.Ledger.{matches}
use Rattle.books.specs.declared.rows.Row.{Row}

-- each key is below every later one
abbrev pub below : {P : Type 0} → (P → P → Ordering) → P → List (Row P) → Bool
below order k [] = true
below order k (r ∷ rs) = is_lt (order k r.key) && below order k rs

abbrev pub rises : {P : Type 0} → (P → P → Ordering) → List (Row P) → Bool
rises order [] = true
rises order (r ∷ rs) = below order r.key rs && rises order rs

-- The row at i has the key; or none has it, and it belongs at place p.
abbrev pub Sought : {P : Type 0} → (P → P → Ordering) → P → List (Row P) → Result ℕ ℕ → Type 0
Sought {P} order k rows (Ok i) = (i < length rows) × ((d : Row P) → matches order k (slice_index_or rows i d).key ≡ true)
Sought {P} order k rows (Err p) = (p ≤ length rows) × ((i : ℕ) (d : Row P) → i < p → order (slice_index_or rows i d).key k ≡ Less) × ((i : ℕ) (d : Row P) → p ≤ i → i < length rows → order k (slice_index_or rows i d).key ≡ Less)
