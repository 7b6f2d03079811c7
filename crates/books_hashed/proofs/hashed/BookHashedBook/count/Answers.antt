use Rattle.std.proofs.Common.{sym}
use Rattle.books.proofs.Numbering.{length_members}
use Rattle.books_hashed.specs.Hashed.{held}
use Rattle.books_hashed.proofs.hashed.BookHashedBook.count.Goals as goal

pub returns-clause-count : goal.returns-clause-count
returns-clause-count g c =
    let b = c.args.self.now in
    sym (length_members held b.used b.slots.now b.sound.each)
