use Rattle.std.proofs.Common.{◌+◌, drop, sym, refl, ap, ◌∙◌}
use Rattle.range_map.specs.Map.{in_use}
use Rattle.register.specs.Holdings.{lowered_all}
use Rattle.register.proofs.Lowering.{lowered_on, lowered_end}
use Rattle.register.proofs.day_opening.lower_all.Goals as goal

pub loop-entry-init : goal.loop-entry-init
loop-entry-init g c = refl

pub loop-entry-preserved : goal.loop-entry-preserved
loop-entry-preserved g c =
    ap (lowered_all c.args.today.date (in_use c.args.today.origins.now) (drop (c.loop-entry.entry-index + 1) c.args.entries.now)) c.lower_if_lapsed.ensures.lowered
    ∙ sym (lowered_on c.args.today.date (in_use c.args.today.origins.now) c.args.entries.now c.loop-entry.entry-index _ _ c.loop-entry-test.true)
    ∙ c.loop-entry.invariant

pub returns : goal.returns
returns g c = record { lowered = sym (lowered_end c.args.today.date (in_use c.args.today.origins.now) c.args.entries.now c.loop-entry.entry-index _ c.loop-entry-test.false) ∙ c.loop-entry.invariant }
