use Rattle.std.proofs.Common.{◌^◌, ◌∙◌}
use Rattle.range_map.specs.Lent.{entries_in}
use Rattle.range_map.proofs.Joining.{lay_here}
use Rattle.range_map.proofs.lent.Lent.lay.Goals as goal

pub returns-clause-after : goal.returns-clause-after
returns-clause-after g c =
    c.insert.ensures.after ∙ lay_here 0 (2 ^ 62) (entries_in c.args.self.now) c.requires.sound.rising c.args.x _ c.place_of-i.ensures.place
