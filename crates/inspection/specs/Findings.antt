-- What is found at a place of an order file. Assumes nothing.
use Rattle.std.specs.Prelude.{ℕ, ◌-◌, cond, List, length, drop, Some, None, Ok, Err, Option, Result, nat_lt}
use Rattle.order_file.specs.Checks.{bad_order}
use Rattle.order_file.specs.Faults.{operand_number, read_number}
use Rattle.order_file.specs.Reading.{read_order}
use Rattle.order_file.specs.declared.faults.ReadFault.{ReadFault}
use Rattle.order_file.specs.declared.orders.Order.{Order}
use Rattle.inspection.specs.declared.findings.Finding.{Finding}
use Rattle.inspection.specs.declared.refusals.Refusal.{Refusal}
use Rattle.inspection.specs.declared.refusals.Refusal.TheVariants.{Unreadable, Unlawful}

-- an order by the distance of its first operand outside its rule
abbrev pub judged_by : Option ℕ → Order → Result Order Refusal
judged_by None order = Ok order
judged_by (Some distance) order = Err (Unlawful (record { distance = distance }))

abbrev pub judged : Order → Result Order Refusal
judged order = judged_by (bad_order order) order

-- what the reader answered, in a file of `size` bytes: an order ends where the bytes behind it begin, and nothing
-- can be read behind an order that cannot be read
abbrev pub as_read : ℕ → Result (Order × List ℕ) ReadFault → Finding
as_read size (Ok read) = record { order = judged read.0; next = size - length read.1 }
as_read size (Err fault) = record { order = Err (Unreadable fault); next = size }

-- nothing at the end, and past it
abbrev pub found : List ℕ → ℕ → Option Finding
found file place = cond (nat_lt place (length file)) (Some (as_read (length file) (read_order (drop place file) place))) None

abbrev pub refusal_number : Refusal → ℕ
refusal_number (Unreadable fault) = read_number fault
refusal_number (Unlawful fault) = operand_number fault
