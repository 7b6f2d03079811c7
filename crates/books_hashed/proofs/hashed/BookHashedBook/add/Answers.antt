use Rattle.std.proofs.Common.{◌≡◌, ◌+◌, Ok, sym, ap, ◌∙◌, subst, arith}
use Rattle.books.specs.Ledger.{matches}
use Rattle.books.specs.Rows.{joining}
use Rattle.books.proofs.Verdicts.{allowed, added}
use Rattle.books_hashed.specs.Hashed.{table_ledger, TableSound}
use Rattle.books_hashed.proofs.HashTables.{free_inside, probe_absent, table_count, table_room, table_added, table_added_sound}
use Rattle.books_hashed.proofs.Probes.{free_found}
use Rattle.books_hashed.proofs.hashed.BookHashedBook.add.Goals as goal

pub put_row-requires-clause-within : goal.put_row-requires-clause-within
put_row-requires-clause-within g c =
    free_inside g.met.K.Key.total g.K.Key.spread c.args.self.now.slots.now (g.K.Key.plain c.args.key) c.in_ok-at.at c.in_ok-at.ensures.slot.1

pub put_row-requires-clause-roomy : goal.put_row-requires-clause-roomy
put_row-requires-clause-roomy g c =
    let b = c.args.self.now in
    omega (arith, table_room g.met.K.Key.total g.K.Key.spread b.slots.now b.used b.sound c.in_ok-at.ensures.slot.0)

pub invariant_of-self : goal.invariant_of-self
invariant_of-self g c =
    let b = c.args.self.now in
    let sound = b.sound in
    let k = g.K.Key.plain c.args.key in
    let is = matches g.K.Key.order k in
    let l = table_ledger b.slots.now b.used in
    let found = c.in_ok-at.ensures.slot in
    let row = c.joining-row.result in
    let same : row ≡ joining k (b.used + 1) = c.joining-row.ensures.joining ∙ (λ i. joining (c.to_plain.ensures.plain i) ((c.next_number-number.ensures.next ∙ ap (λ n. n + 1) (table_count g.met.K.Key.total g.K.Key.spread b.slots.now b.used sound)) i)) in
    let slots' = c.put_row.new.slots in
    record { sound = subst (TableSound g.K.Key.order g.K.Key.spread slots') (sym c.put_row.ensures.counted) (table_added_sound g.met.K.Key.total g.K.Key.spread k b.slots.now slots' b.used c.in_ok-at.at sound found.1 (table_room g.met.K.Key.total g.K.Key.spread b.slots.now b.used sound found.0) row same c.put_row.ensures.put) }

pub returns-clause-answer : goal.returns-clause-answer
returns-clause-answer g c =
    let b = c.args.self.now in
    let sound = b.sound in
    let k = g.K.Key.plain c.args.key in
    let is = matches g.K.Key.order k in
    let l = table_ledger b.slots.now b.used in
    let found = c.in_ok-at.ensures.slot in
    let none = probe_absent g.met.K.Key.total g.K.Key.spread b.slots.now sound.settled k b.used (λ i e. free_found (sym found.1 ∙ e)) in
    ap Ok c.next_number-number.ensures.next ∙ allowed is l g.K.Key.BOOK _ none found.0

pub returns-clause-after : goal.returns-clause-after
returns-clause-after g c =
    let b = c.args.self.now in
    let sound = b.sound in
    let k = g.K.Key.plain c.args.key in
    let is = matches g.K.Key.order k in
    let l = table_ledger b.slots.now b.used in
    let found = c.in_ok-at.ensures.slot in
    let row = c.joining-row.result in
    let same : row ≡ joining k (b.used + 1) = c.joining-row.ensures.joining ∙ (λ i. joining (c.to_plain.ensures.plain i) ((c.next_number-number.ensures.next ∙ ap (λ n. n + 1) (table_count g.met.K.Key.total g.K.Key.spread b.slots.now b.used sound)) i)) in
    let slots' = c.put_row.new.slots in
    let none = probe_absent g.met.K.Key.total g.K.Key.spread b.slots.now sound.settled k b.used (λ i e. free_found (sym found.1 ∙ e)) in
    ap (table_ledger slots') c.put_row.ensures.counted
    ∙ table_added g.met.K.Key.total g.K.Key.spread k b.slots.now slots' b.used c.in_ok-at.at sound found.1 (table_room g.met.K.Key.total g.K.Key.spread b.slots.now b.used sound found.0) row same c.put_row.ensures.put
    ∙ added is l k none found.0
