use Rattle.std.proofs.Common.{arith}
use Rattle.figures.proofs.Weights.{pairs_less, all_pairs, no_pair}
use Rattle.figures.proofs.devices.weighted_sum.Goals as goal

pub loop-pair-init : goal.loop-pair-init
loop-pair-init c = (omega arith, omega (arith, all_pairs c.args.number))

pub loop-pair-preserved : goal.loop-pair-preserved
loop-pair-preserved c = (omega arith, omega (arith, pairs_less c.loop-pair._pair c.loop-pair.rest c.loop-pair-test.true))

pub returns : goal.returns
returns c = omega (arith, no_pair c.loop-pair._pair c.loop-pair.rest c.loop-pair-test.false)
