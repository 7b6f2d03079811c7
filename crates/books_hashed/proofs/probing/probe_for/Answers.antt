use Rattle.std.proofs.Common.{◌%◌, length, ap, ◌∙◌, rules, mod-lt, arith}
use Rattle.books.specs.Ledger.{matches}
use Rattle.books_hashed.specs.Probing.{key_at, probe_from}
use Rattle.books_hashed.proofs.ProbeTurns.{whole}
use Rattle.books_hashed.proofs.probing.probe_for.Goals as goal

pub returns : goal.returns
returns g c =
    let is = matches g.K.Key.order c.args.key in
    let keys = key_at c.args.slots.now in
    let m = length c.args.slots.now in
    record {
      ends = c.unwrap_or.ensures
          ∙ whole is keys m (c.hashed.result % m) (mod-lt _ (omega arith)) c.probe_among.result c.or_else.result c.probe_among.ensures.ends c.or_else.ensures (λ below n. search rules)
          ∙ ap (λ h. probe_from is keys m (h % m) m) c.hashed.ensures.spread;
    }
