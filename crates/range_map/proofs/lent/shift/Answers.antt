use Rattle.range_map.proofs.Moves.{shifted}
use Rattle.range_map.proofs.lent.shift.Goals as goal

pub returns : goal.returns
returns g c = record { shifted = shifted c.args.part.now _ c.args.x c.requires.some c.rotate_right.ensures.after }
