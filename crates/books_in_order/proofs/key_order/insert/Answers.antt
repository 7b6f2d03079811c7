use Rattle.books_in_order.proofs.Moves.{moved_up}
use Rattle.books_in_order.proofs.key_order.insert.Goals as goal

pub returns-clause-inserted : goal.returns-clause-inserted
returns-clause-inserted g c = moved_up c.args.rows.now c.args.used.now c.args.place c.args.row c.requires.roomy c.requires.within c.move_up.new.rows c.move_up.ensures.moved
