-- The orders of a whole file, and what is printed of them. Assumes nothing.
use Rattle.std.specs.Prelude.{ℕ, zero, suc, ◌+◌, cond, List, [], ◌∷◌, ◌++◌, length, Some, None, Ok, Err, Result, nat_le}
use Rattle.figures.specs.Limits.{most_file_bytes}
use Rattle.order_file.specs.declared.orders.Order.{Order}
use Rattle.report.specs.Lines.{refused_line, lawful_line, too_long_line}
use Rattle.inspection.specs.Findings.{found, refusal_number}
use Rattle.inspection.specs.declared.refusals.Refusal.{Refusal}

-- The orders from a place to the end of the file, each with its place; one that cannot be read is the last. `most`
-- is how many there can be at most: no order is shorter than a byte.
unfoldable pub findings_from : ℕ → List ℕ → ℕ → List (ℕ × Result Order Refusal)
findings_from zero file place = []
findings_from (suc most) file place = elim (found file place) [
  | None ↦ []
  | Some finding ↦ (place, finding.order) ∷ findings_from most file finding.next
]

abbrev pub findings : List ℕ → List (ℕ × Result Order Refusal)
findings file = findings_from (length file) file 0

-- the line of an order that comes back; of a lawful one nothing
abbrev pub line_of : ℕ → ℕ → Result Order Refusal → List ℕ
line_of index place (Ok order) = []
line_of index place (Err refusal) = refused_line index place (refusal_number refusal)

-- a line for each order that came back, with its index
abbrev pub refused_lines : ℕ → List (ℕ × Result Order Refusal) → List ℕ
refused_lines index [] = []
refused_lines index (order ∷ orders) = line_of index order.0 order.1 ++ refused_lines (index + 1) orders

abbrev pub lawful_in : Result Order Refusal → ℕ
lawful_in (Ok order) = 1
lawful_in (Err refusal) = 0

abbrev pub lawful_count : List (ℕ × Result Order Refusal) → ℕ
lawful_count [] = 0
lawful_count (order ∷ orders) = lawful_in order.1 + lawful_count orders

-- the refusals, then how many orders are lawful
abbrev pub printed : List (ℕ × Result Order Refusal) → List ℕ
printed orders = refused_lines 0 orders ++ lawful_line (lawful_count orders)

-- all that is printed of a file
abbrev pub inspection : List ℕ → List ℕ
inspection file = cond (nat_le (length file) most_file_bytes) (printed (findings file)) too_long_line
