use Rattle.std.proofs.Common.{arith}
use Rattle.range_map.specs.Plain.{cuts_of}
use Rattle.range_map.proofs.rising.RisingEntries.count_cuts.Goals as goal

pub returns-clause-cuts : goal.returns-clause-cuts
unfolding cuts_of
returns-clause-cuts g c = omega (arith, c.splits.ensures.cuts, c.splits-2.ensures.cuts)
