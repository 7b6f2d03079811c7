use Rattle.std.proofs.Common.{◌≡◌, ◌+◌, take, Ok, sym, ap, ◌∙◌, subst, arith}
use Rattle.books.specs.Ledger.{matches}
use Rattle.books.specs.Rows.{joining}
use Rattle.books.proofs.Verdicts.{allowed, added}
use Rattle.books_in_order.specs.InOrder.{keyed_ledger, KeyedSound}
use Rattle.books_in_order.proofs.KeyOrdered.{sought_absent, has_room, in_order_count, added_ledger, added_sound}
use Rattle.books_in_order.proofs.in_order.BookInOrderBook.add.Goals as goal

pub insert-requires-clause-roomy : goal.insert-requires-clause-roomy
insert-requires-clause-roomy g c =
    let b = c.args.self.now in
    omega (arith, has_room b.rows.now b.used b.sound c.in_ok-place.ensures.place.0)

pub invariant_of-self : goal.invariant_of-self
invariant_of-self g c =
    let b = c.args.self.now in
    let sound = b.sound in
    let k = g.K.Key.plain c.args.key in
    let is = matches g.K.Key.order k in
    let l = keyed_ledger b.rows.now b.used in
    let found = c.in_ok-place.ensures.place in
    let row = c.joining-row.result in
    let same : row ≡ joining k (b.used + 1) = c.joining-row.ensures.joining ∙ (λ i. joining (c.to_plain.ensures.plain i) ((c.next_number-number.ensures.next ∙ ap (λ n. n + 1) (in_order_count b.rows.now b.used sound)) i)) in
    let slots' = c.insert.new.rows in
    record { sound = subst (KeyedSound g.K.Key.order slots') (sym c.insert.ensures.counted) (added_sound g.met.K.Key.total k b.rows.now slots' b.used c.in_ok-place.place sound found.1 (has_room b.rows.now b.used sound found.0) row same c.insert.auto.rows c.insert.ensures.inserted) }

pub returns-clause-answer : goal.returns-clause-answer
returns-clause-answer g c =
    let b = c.args.self.now in
    let sound = b.sound in
    let k = g.K.Key.plain c.args.key in
    let is = matches g.K.Key.order k in
    let l = keyed_ledger b.rows.now b.used in
    let found = c.in_ok-place.ensures.place in
    let none = sought_absent g.met.K.Key.total k (take b.used b.rows.now) _ found.1 b.used in
    ap Ok c.next_number-number.ensures.next ∙ allowed is l g.K.Key.BOOK _ none found.0

pub returns-clause-after : goal.returns-clause-after
returns-clause-after g c =
    let b = c.args.self.now in
    let sound = b.sound in
    let k = g.K.Key.plain c.args.key in
    let is = matches g.K.Key.order k in
    let l = keyed_ledger b.rows.now b.used in
    let found = c.in_ok-place.ensures.place in
    let row = c.joining-row.result in
    let same : row ≡ joining k (b.used + 1) = c.joining-row.ensures.joining ∙ (λ i. joining (c.to_plain.ensures.plain i) ((c.next_number-number.ensures.next ∙ ap (λ n. n + 1) (in_order_count b.rows.now b.used sound)) i)) in
    let slots' = c.insert.new.rows in
    let none = sought_absent g.met.K.Key.total k (take b.used b.rows.now) _ found.1 b.used in
    ap (keyed_ledger slots') c.insert.ensures.counted
    ∙ added_ledger g.met.K.Key.total k b.rows.now slots' b.used c.in_ok-place.place sound found.1 (has_room b.rows.now b.used sound found.0) row same c.insert.auto.rows c.insert.ensures.inserted
    ∙ added is l k none found.0
