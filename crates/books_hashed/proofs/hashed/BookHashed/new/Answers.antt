use Rattle.books_hashed.proofs.HashTables.{fresh_table}
use Rattle.std.proofs.Common.{refl}
use Rattle.books_hashed.proofs.hashed.BookHashed.new.Goals as goal

pub invariant_of-result : goal.invariant_of-result
invariant_of-result g c =
    record { sound = fresh_table g.K.Key.order g.K.Key.spread c.clear.new.slots 0 refl c.clear.ensures.free }
