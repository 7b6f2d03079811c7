use Rattle.std.proofs.Common.{◌+◌, ◌-◌, length, ap}
use Rattle.std.proofs.Math.Nat.{mod-eq_of_lt}
use Rattle.books.specs.Ledger.{matches}
use Rattle.books_hashed.specs.Probing.{key_at, probe_from}
use Rattle.books_hashed.proofs.ProbeTurns.{ends_here, goes_on}
use Rattle.books_hashed.proofs.probing.probe_among.Goals as goal

pub loop-at-init : goal.loop-at-init
loop-at-init g c = λ n. ap (λ p. probe_from (matches g.K.Key.order c.args.key) (key_at c.args.slots.now) (length c.args.slots.now) p (c.args.to - c.args.from + n)) (mod-eq_of_lt c.requires.begins)

pub loop-at-preserved : goal.loop-at-preserved
loop-at-preserved g c = λ n. goes_on (matches g.K.Key.order c.args.key) c.args.slots.now c.loop-at.at c.args.to n c.loop-at-test.true c.requires.within c.index-slots-at.result c.index-slots-at.is _ (c.loop-at.invariant n) c.in_default.ensures.glanced

pub returns-in-Some : goal.returns-in-Some
returns-in-Some g c = record {
  ends = λ n. ends_here (matches g.K.Key.order c.args.key) c.args.slots.now c.loop-at.at c.args.to n c.loop-at-test.true c.requires.within c.index-slots-at.result c.index-slots-at.is _ (c.loop-at.invariant n) c.in-Some.end c.in-Some.ensures.glanced;
}
