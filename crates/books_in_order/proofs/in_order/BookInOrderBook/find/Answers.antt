use Rattle.std.proofs.Common.{rules, ◌≡◌, false, take, Ok, ap, subst, ◌∙◌}
use Rattle.std.specs.Option.{option_map}
use Rattle.std.specs.Result.{is_ok}
use Rattle.books.specs.Ledger.{matches}
use Rattle.books.proofs.Found.{number_none, totals_none}
use Rattle.books_in_order.specs.InOrder.{keyed_ledger}
use Rattle.books_in_order.specs.KeyOrder.{Sought}
use Rattle.books_in_order.proofs.KeyOrdered.{sought_nowhere, read_key, read_number, read_totals}
use Rattle.books_in_order.proofs.in_order.BookInOrderBook.find.Goals as goal

pub returns-in_err-at-clause-number : goal.returns-in_err-at-clause-number
returns-in_err-at-clause-number g c =
    let b = c.args.self.now in
    let sound = b.sound in
    let k = g.K.Key.plain c.args.key in
    let is = matches g.K.Key.order k in
    let l = keyed_ledger b.rows.now b.used in
    let refused : is_ok c.seek_key.result ≡ false = search rules in
    let none = sought_nowhere g.met.K.Key.total k (take b.used b.rows.now) c.seek_key.result c.seek_key.ensures.sought refused b.used in
    ap (option_map (λ row. row.number)) c.from_residual.ensures ∙ number_none is l.members none

pub returns-in_err-at-clause-totals : goal.returns-in_err-at-clause-totals
returns-in_err-at-clause-totals g c =
    let b = c.args.self.now in
    let sound = b.sound in
    let k = g.K.Key.plain c.args.key in
    let is = matches g.K.Key.order k in
    let l = keyed_ledger b.rows.now b.used in
    let refused : is_ok c.seek_key.result ≡ false = search rules in
    let none = sought_nowhere g.met.K.Key.total k (take b.used b.rows.now) c.seek_key.result c.seek_key.ensures.sought refused b.used in
    ap (option_map (λ row. (row.first, row.second))) c.from_residual.ensures ∙ totals_none is l.members none

pub returns : goal.returns
returns g c =
    let b = c.args.self.now in
    let sound = b.sound in
    let k = g.K.Key.plain c.args.key in
    let found : c.seek_key.result ≡ Ok c.in_ok-at.at = search rules in
    let sought = subst (Sought g.K.Key.order k (take b.used b.rows.now)) found c.seek_key.ensures.sought in
    let row = c.row_at.result in
    record {
      key = read_key g.met.K.Key.total k b.rows.now b.used c.in_ok-at.at sound sought row c.row_at.ensures.row;
      number = read_number g.met.K.Key.total k b.rows.now b.used c.in_ok-at.at sound sought row c.row_at.ensures.row;
      totals = read_totals g.met.K.Key.total k b.rows.now b.used c.in_ok-at.at sound sought row c.row_at.ensures.row;
    }
