use Rattle.std.proofs.Common.{rules, ◌≡◌, false, take, Ok, Err, refl, subst, ◌∙◌}
use Rattle.std.specs.Result.{is_ok}
use Rattle.books.specs.Ledger.{matches}
use Rattle.books.specs.declared.faults.BookFault.TheVariants.{Absent}
use Rattle.books.proofs.Verdicts.{refused_absent, unwritten, written, written_answer}
use Rattle.books_in_order.specs.InOrder.{keyed_ledger}
use Rattle.books_in_order.specs.KeyOrder.{Sought}
use Rattle.books_in_order.proofs.KeyOrdered.{sought_nowhere, sought_present, written_ledger, written_sound}
use Rattle.books_in_order.proofs.in_order.BookInOrderBook.write_totals.Goals as goal

pub returns-in_err-at-clause-answer : goal.returns-in_err-at-clause-answer
returns-in_err-at-clause-answer g c =
    let b = c.args.self.now in
    let sound = b.sound in
    let k = g.K.Key.plain c.args.key in
    let is = matches g.K.Key.order k in
    let l = keyed_ledger b.rows.now b.used in
    let refused : is_ok c.seek_key.result ≡ false = search rules in
    let none = sought_nowhere g.met.K.Key.total k (take b.used b.rows.now) c.seek_key.result c.seek_key.ensures.sought refused b.used in
    let told : c.from_residual.result ≡ Err (Absent g.K.Key.BOOK) = search rules in
    told ∙ refused_absent is l refl none

pub returns-in_err-at-clause-after : goal.returns-in_err-at-clause-after
returns-in_err-at-clause-after g c =
    let b = c.args.self.now in
    let sound = b.sound in
    let k = g.K.Key.plain c.args.key in
    let is = matches g.K.Key.order k in
    let l = keyed_ledger b.rows.now b.used in
    let refused : is_ok c.seek_key.result ≡ false = search rules in
    let none = sought_nowhere g.met.K.Key.total k (take b.used b.rows.now) c.seek_key.result c.seek_key.ensures.sought refused b.used in
    unwritten is l c.args.first c.args.second none

pub invariant_of-self : goal.invariant_of-self
invariant_of-self g c =
    let b = c.args.self.now in
    let sound = b.sound in
    let k = g.K.Key.plain c.args.key in
    let found : c.seek_key.result ≡ Ok c.in_ok-at.at = search rules in
    let sought = subst (Sought g.K.Key.order k (take b.used b.rows.now)) found c.seek_key.ensures.sought in
    record { sound = written_sound g.met.K.Key.total k b.rows.now b.used c.in_ok-at.at c.args.first c.args.second sound sought c.index-self-at.result c.with_totals.result c.with_totals.ensures.totals }

pub returns-clause-answer : goal.returns-clause-answer
returns-clause-answer g c =
    let b = c.args.self.now in
    let sound = b.sound in
    let k = g.K.Key.plain c.args.key in
    let is = matches g.K.Key.order k in
    let l = keyed_ledger b.rows.now b.used in
    let found : c.seek_key.result ≡ Ok c.in_ok-at.at = search rules in
    let sought = subst (Sought g.K.Key.order k (take b.used b.rows.now)) found c.seek_key.ensures.sought in
    written_answer is l g.K.Key.BOOK (sought_present g.met.K.Key.total k b.rows.now b.used c.in_ok-at.at sound sought)

pub returns-clause-after : goal.returns-clause-after
returns-clause-after g c =
    let b = c.args.self.now in
    let sound = b.sound in
    let k = g.K.Key.plain c.args.key in
    let is = matches g.K.Key.order k in
    let l = keyed_ledger b.rows.now b.used in
    let found : c.seek_key.result ≡ Ok c.in_ok-at.at = search rules in
    let sought = subst (Sought g.K.Key.order k (take b.used b.rows.now)) found c.seek_key.ensures.sought in
    let met = sought_present g.met.K.Key.total k b.rows.now b.used c.in_ok-at.at sound sought in
    written_ledger g.met.K.Key.total k b.rows.now b.used c.in_ok-at.at c.args.first c.args.second sound sought c.index-self-at.result c.with_totals.result c.with_totals.ensures.totals
    ∙ written is l c.args.first c.args.second met
