use Rattle.std.proofs.Common.{take, ap, ◌∙◌}
use Rattle.range_map.proofs.Slots.{put_is, take_repaid}
use Rattle.range_map.proofs.lent.Lent.put.Goals as goal

pub returns-clause-after : goal.returns-clause-after
returns-clause-after g c =
    let s = c.args.self.now in
    ap (take s.used) (put_is s.slots.now c.args.i c.index-self-i.result c.args.payload) ∙ take_repaid s.used s.slots.now c.args.i c.args.payload
