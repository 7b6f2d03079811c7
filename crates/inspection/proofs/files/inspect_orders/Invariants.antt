use Rattle.std.proofs.Common.{◌≡◌, ◌≤◌, ◌++◌, vec_items}
use Rattle.std.specs.Iterator.Adapters.{enumerate_source, enumerate_count}
use Rattle.inspection.specs.Files.{findings, printed}
use Rattle.inspection.specs.Orders.{orders_left}
use Rattle.inspection.proofs.Walk.{left}
use Rattle.inspection.proofs.files.inspect_orders.Given as goal

abbrev pub invariant-loop-index : goal.invariant-loop-index
invariant-loop-index l =
    goal.iterator-loop-index.can_next l.index-iterator
    × goal.iterator-loop-index.is_finite l.index-iterator
    × (l.lawful ≤ enumerate_count l.index-iterator)
    × (vec_items l.out ++ left (enumerate_count l.index-iterator) l.lawful (orders_left (enumerate_source l.index-iterator)) ≡ printed (findings l.file))
