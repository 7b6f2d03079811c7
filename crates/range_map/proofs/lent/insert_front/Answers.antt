use Rattle.range_map.proofs.Moves.{moved_in}
use Rattle.range_map.proofs.lent.insert_front.Goals as goal

pub returns-clause-after : goal.returns-clause-after
returns-clause-after g c = moved_in c.args.slots.now c.args.used c.args.i c.args.x _ c.requires.within c.requires.room c.shift.ensures.shifted
