use Rattle.std.proofs.Common.{sym, ◌∙◌}
use Rattle.books.specs.Ledger.{matches}
use Rattle.books.proofs.Verdicts.{refused_absent, unwritten, written, written_answer}
use Rattle.books_hashed.specs.Hashed.{table_ledger}
use Rattle.books_hashed.proofs.HashTables.{found_row, probe_present, probe_absent, table_written, table_written_sound}
use Rattle.books_hashed.proofs.hashed.BookHashedBook.write_totals.Goals as goal

pub put_totals-requires : goal.put_totals-requires
put_totals-requires g c =
    let b = c.args.self.now in
    record { within = (found_row g.met.K.Key.total g.K.Key.spread b.slots.now (g.K.Key.plain c.args.key) c.in-Found.at (sym c.in-Found.ensures.ends)).3 }

pub returns-in_default-clause-answer : goal.returns-in_default-clause-answer
returns-in_default-clause-answer g c =
    let b = c.args.self.now in
    let sound = b.sound in
    let k = g.K.Key.plain c.args.key in
    let is = matches g.K.Key.order k in
    let l = table_ledger b.slots.now b.used in
    let none = probe_absent g.met.K.Key.total g.K.Key.spread b.slots.now sound.settled k b.used (λ i e. c.in_default.not-Found i (c.probe_key.ensures.ends ∙ e)) in
    refused_absent is l c.BOOK.ensures none

pub returns-in_default-clause-after : goal.returns-in_default-clause-after
returns-in_default-clause-after g c =
    let b = c.args.self.now in
    let sound = b.sound in
    let k = g.K.Key.plain c.args.key in
    let is = matches g.K.Key.order k in
    let l = table_ledger b.slots.now b.used in
    let none = probe_absent g.met.K.Key.total g.K.Key.spread b.slots.now sound.settled k b.used (λ i e. c.in_default.not-Found i (c.probe_key.ensures.ends ∙ e)) in
    unwritten is l c.args.first c.args.second none

pub invariant_of-self : goal.invariant_of-self
invariant_of-self g c =
    let b = c.args.self.now in
    let sound = b.sound in
    let k = g.K.Key.plain c.args.key in
    let is = matches g.K.Key.order k in
    let l = table_ledger b.slots.now b.used in
    record { sound = table_written_sound g.met.K.Key.total g.K.Key.spread k b.slots.now c.put_totals.new.slots b.used c.in-Found.at c.args.first c.args.second sound (sym c.in-Found.ensures.ends) c.put_totals.ensures.put }

pub returns-clause-answer : goal.returns-clause-answer
returns-clause-answer g c =
    let b = c.args.self.now in
    let sound = b.sound in
    let k = g.K.Key.plain c.args.key in
    let is = matches g.K.Key.order k in
    let l = table_ledger b.slots.now b.used in
    written_answer is l g.K.Key.BOOK (probe_present g.met.K.Key.total g.K.Key.spread b.slots.now b.used sound k c.in-Found.at (sym c.in-Found.ensures.ends))

pub returns-clause-after : goal.returns-clause-after
returns-clause-after g c =
    let b = c.args.self.now in
    let sound = b.sound in
    let k = g.K.Key.plain c.args.key in
    let is = matches g.K.Key.order k in
    let l = table_ledger b.slots.now b.used in
    let found = sym c.in-Found.ensures.ends in
    let met = probe_present g.met.K.Key.total g.K.Key.spread b.slots.now b.used sound k c.in-Found.at found in
    table_written g.met.K.Key.total g.K.Key.spread k b.slots.now c.put_totals.new.slots b.used c.in-Found.at c.args.first c.args.second sound found c.put_totals.ensures.put
    ∙ written is l c.args.first c.args.second met
