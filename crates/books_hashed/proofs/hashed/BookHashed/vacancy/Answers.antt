use Rattle.std.proofs.Common.{sym, ◌∙◌, arith}
use Rattle.std.proofs.lemmas.Bool.{not-true, not-false}
use Rattle.books.specs.Ledger.{matches}
use Rattle.books.proofs.Verdicts.{refused_present, refused_full, allowed}
use Rattle.books_hashed.specs.Hashed.{table_ledger}
use Rattle.books_hashed.proofs.HashTables.{probe_present, probe_absent, full_table, table_no_room}
use Rattle.books_hashed.proofs.Probes.{free_found, full_found}
use Rattle.books_hashed.proofs.hashed.BookHashed.vacancy.Goals as goal

pub returns-in-Found : goal.returns-in-Found
returns-in-Found g c =
    let b = c.args.self.now in
    let sound = b.sound in
    let k = g.K.Key.plain c.args.key in
    let is = matches g.K.Key.order k in
    let l = table_ledger b.slots.now b.used in
    let met = probe_present g.met.K.Key.total g.K.Key.spread b.slots.now b.used sound k c.in-Found.field-0 (sym c.in-Found.ensures.ends) in
    record { verdict = refused_present is l c.BOOK.ensures tt met; slot = tt }

pub returns-in-Full-clause-verdict : goal.returns-in-Full-clause-verdict
returns-in-Full-clause-verdict g c =
    let b = c.args.self.now in
    let sound = b.sound in
    let k = g.K.Key.plain c.args.key in
    let is = matches g.K.Key.order k in
    let l = table_ledger b.slots.now b.used in
    let ends = sym c.in-Full.ensures.ends in
    let none = probe_absent g.met.K.Key.total g.K.Key.spread b.slots.now sound.settled k b.used (λ i e. full_found (sym ends ∙ e)) in
    let full = table_no_room g.met.K.Key.total g.K.Key.spread b.slots.now b.used sound (omega (arith, full_table g.met.K.Key.total g.K.Key.spread b.slots.now k b.used b.sound.each ends)) in
    refused_full is l c.BOOK-in-Full.ensures tt none full

pub returns-in-Free-clause-verdict : goal.returns-in-Free-clause-verdict
returns-in-Free-clause-verdict g c =
    let b = c.args.self.now in
    let sound = b.sound in
    let k = g.K.Key.plain c.args.key in
    let is = matches g.K.Key.order k in
    let l = table_ledger b.slots.now b.used in
    let none = probe_absent g.met.K.Key.total g.K.Key.spread b.slots.now sound.settled k b.used (λ i e. free_found (c.in-Free.ensures.ends ∙ e)) in
    let full = not-true _ (sym c.if-is_full.ensures.full) in
    refused_full is l c.BOOK-in-Free.ensures tt none full

pub returns-in-Free-2 : goal.returns-in-Free-2
returns-in-Free-2 g c =
    let b = c.args.self.now in
    let sound = b.sound in
    let k = g.K.Key.plain c.args.key in
    let is = matches g.K.Key.order k in
    let l = table_ledger b.slots.now b.used in
    let none = probe_absent g.met.K.Key.total g.K.Key.spread b.slots.now sound.settled k b.used (λ i e. free_found (c.in-Free.ensures.ends ∙ e)) in
    let room = not-false _ (sym c.if-is_full.ensures.full) in
    record { verdict = allowed is l g.K.Key.BOOK tt none room; slot = (room, sym c.in-Free.ensures.ends) }
