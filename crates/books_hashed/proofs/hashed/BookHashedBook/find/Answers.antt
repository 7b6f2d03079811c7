use Rattle.std.proofs.Common.{sym, refl, ◌∙◌}
use Rattle.books.specs.Ledger.{matches}
use Rattle.books.proofs.Found.{number_none, totals_none}
use Rattle.books_hashed.specs.Hashed.{table_ledger}
use Rattle.books_hashed.proofs.HashTables.{probe_absent, slot_key, slot_number, slot_totals}
use Rattle.books_hashed.proofs.hashed.BookHashedBook.find.Goals as goal

pub returns : goal.returns
returns g c =
    let b = c.args.self.now in
    let sound = b.sound in
    let k = g.K.Key.plain c.args.key in
    let is = matches g.K.Key.order k in
    let l = table_ledger b.slots.now b.used in
    let found = sym c.in-Found.ensures.ends in
    let at = c.in-Found.at in
    record {
      key = slot_key g.met.K.Key.total g.K.Key.spread b.slots.now b.used sound k at found c.slot_at.result c.slot_at.ensures.slot;
      number = slot_number g.met.K.Key.total g.K.Key.spread b.slots.now b.used sound k at found c.slot_at.result c.slot_at.ensures.slot;
      totals = slot_totals g.met.K.Key.total g.K.Key.spread b.slots.now b.used sound k at found c.slot_at.result c.slot_at.ensures.slot;
    }

pub returns-in_default : goal.returns-in_default
returns-in_default g c =
    let b = c.args.self.now in
    let sound = b.sound in
    let k = g.K.Key.plain c.args.key in
    let is = matches g.K.Key.order k in
    let l = table_ledger b.slots.now b.used in
    let none = probe_absent g.met.K.Key.total g.K.Key.spread b.slots.now sound.settled k b.used (λ i e. c.in_default.not-Found i (c.probe_key.ensures.ends ∙ e)) in
    record { key = refl; number = number_none is l.members none; totals = totals_none is l.members none }
