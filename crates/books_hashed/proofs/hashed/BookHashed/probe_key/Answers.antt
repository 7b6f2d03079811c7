use Rattle.std.proofs.Common.{sym, ◌∙◌}
use Rattle.books_hashed.proofs.HashTables.{found_row, free_inside}
use Rattle.books_hashed.proofs.hashed.BookHashed.probe_key.Goals as goal

pub returns-clause-found_inside : goal.returns-clause-found_inside
returns-clause-found_inside g c =
    let b = c.args.self.now in
    λ at e. (found_row g.met.K.Key.total g.K.Key.spread b.slots.now c.to_plain.result at (sym c.probe_for.ensures.ends ∙ e)).3

pub returns-clause-free_inside : goal.returns-clause-free_inside
returns-clause-free_inside g c =
    let b = c.args.self.now in
    λ at e. free_inside g.met.K.Key.total g.K.Key.spread b.slots.now c.to_plain.result at (sym c.probe_for.ensures.ends ∙ e)
