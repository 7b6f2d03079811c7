use Rattle.std.proofs.Common.{arith}
use Rattle.range_map.specs.Map.{in_use}
use Rattle.range_map.proofs.Slots.{repaid_past}
use Rattle.range_map.proofs.map.RangeMap.repay.Goals as goal

pub returns-then-i-count-clause-entries : goal.returns-then-i-count-clause-entries
returns-then-i-count-clause-entries g c = repaid_past (in_use c.args.self.now) c.args.i c.args.payload (omega (arith, c.count.ensures.in_use, c.if-i-count.true))
