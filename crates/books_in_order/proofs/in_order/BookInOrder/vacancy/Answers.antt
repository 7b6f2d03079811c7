use Rattle.std.proofs.Common.{take, sym}
use Rattle.books.specs.Ledger.{matches}
use Rattle.std.proofs.lemmas.Bool.{not-true, not-false}
use Rattle.books.proofs.Verdicts.{refused_present, refused_full, allowed}
use Rattle.books_in_order.specs.InOrder.{keyed_ledger}
use Rattle.books_in_order.proofs.KeyOrdered.{sought_absent, sought_present}
use Rattle.books_in_order.proofs.in_order.BookInOrder.vacancy.Goals as goal

pub returns-in_default : goal.returns-in_default
returns-in_default g c =
    let b = c.args.self.now in
    let sound = b.sound in
    let k = g.K.Key.plain c.args.key in
    let is = matches g.K.Key.order k in
    let l = keyed_ledger b.rows.now b.used in
    let met = sought_present g.met.K.Key.total k b.rows.now b.used c.in_default.field-0 sound c.in_default.ensures.sought in
    record { verdict = refused_present is l c.BOOK.ensures tt met; place = tt }

pub returns-then-is_full : goal.returns-then-is_full
returns-then-is_full g c =
    let b = c.args.self.now in
    let sound = b.sound in
    let k = g.K.Key.plain c.args.key in
    let is = matches g.K.Key.order k in
    let l = keyed_ledger b.rows.now b.used in
    let none = sought_absent g.met.K.Key.total k (take b.used b.rows.now) _ c.in-Err.ensures.sought b.used in
    let full = not-true _ (sym c.if-is_full.ensures.full) in
    record { verdict = refused_full is l c.BOOK-then-is_full.ensures tt none full; place = tt }

pub returns : goal.returns
returns g c =
    let b = c.args.self.now in
    let sound = b.sound in
    let k = g.K.Key.plain c.args.key in
    let is = matches g.K.Key.order k in
    let l = keyed_ledger b.rows.now b.used in
    let none = sought_absent g.met.K.Key.total k (take b.used b.rows.now) _ c.in-Err.ensures.sought b.used in
    let room = not-false _ (sym c.if-is_full.ensures.full) in
    record { verdict = allowed is l g.K.Key.BOOK tt none room; place = (room, c.in-Err.ensures.sought) }
