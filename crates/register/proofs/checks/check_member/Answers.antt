use Rattle.std.proofs.Common.{ap, ◌∙◌}
use Rattle.books.specs.Ledger.{matches}
use Rattle.books.specs.declared.faults.BookFault.TheVariants.{Absent}
use Rattle.register.specs.declared.faults.Fault.TheVariants.{Book}
use Rattle.register.proofs.Presence.{absent, there}
use Rattle.register.proofs.checks.check_member.Goals as goal

pub returns-then-is_none : goal.returns-then-is_none
returns-then-is_none g c =
    record { verdict = absent (matches g.K.Key.order (g.K.Key.plain c.args.key)) (g.B.Book.meaning c.args.book.now).members g.K.Key.BOOK c.running_number.result c.is_none.result c.running_number.ensures.number c.is_none.ensures c.from.result c.if-is_none.true (c.from.ensures ∙ ap (λ n. Book (Absent n)) c.BOOK.ensures) }

pub returns : goal.returns
returns g c =
    record { verdict = there (matches g.K.Key.order (g.K.Key.plain c.args.key)) (g.B.Book.meaning c.args.book.now).members g.K.Key.BOOK c.running_number.result c.is_none.result c.running_number.ensures.number c.is_none.ensures c.if-is_none.false }
