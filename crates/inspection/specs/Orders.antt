-- The orders that an iterator over a file has left. Assumes nothing.
use Rattle.std.specs.Prelude.{ℕ, ◌-◌, List, length, Result}
use Rattle.order_file.specs.declared.orders.Order.{Order}
use Rattle.inspection.specs.Files.{findings_from}
use Rattle.inspection.specs.declared.orders.Orders.{Orders}
use Rattle.inspection.specs.declared.refusals.Refusal.{Refusal}

abbrev pub orders_left : Orders → List (ℕ × Result Order Refusal)
orders_left orders = findings_from (length orders.file.now - orders.place) orders.file.now orders.place
