use Rattle.std.proofs.Common.{length}
use Rattle.order_file_tests.proofs.walk.walk_through.Given as goal

abbrev pub decreases-loop-order : goal.decreases-loop-order
decreases-loop-order l = length l.rest
