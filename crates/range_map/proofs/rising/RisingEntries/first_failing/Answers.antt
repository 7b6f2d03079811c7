use Rattle.std.proofs.Common.{◌^◌, drop, sym, ap, ◌∙◌, subst}
use Rattle.range_map.specs.Plain.{gap_by}
use Rattle.range_map.proofs.Joining.{place_skipped}
use Rattle.range_map.proofs.Stops.{Ahead, ahead_next, ahead_start, reached, walk_done, walk_end, walk_fails, walk_on, walk_open}
use Rattle.range_map.proofs.rising.RisingEntries.first_failing.Goals as goal
use Rattle.range_map.proofs.rising.RisingEntries.first_failing.Goals.{then-wanted-e-via-then-wanted-e, then-wanted-e-via-else-wanted-e+then-not-passes}

pub loop-e-init : goal.loop-e-init
loop-e-init g c =
    let m = c.args.self.now.entries.now in
    let f = c.args.range.first in
    record {
      left = λ t told. ap (gap_by t f c.args.range.last) c.ahead_of-e-items.ensures;
      reach = subst (Ahead f) (sym (c.ahead_of-e-items.ensures ∙ ap (λ i. drop i m) (place_skipped f 0 (2 ^ 62) m c.args.self.now.rising))) (ahead_start f 0 m c.args.self.now.rising);
    }

pub returns-then-wanted-e : goal.returns-then-wanted-e
returns-then-wanted-e g c t told =
    let m = c.ahead_of-e-items.result.now in
    let reach = reached _ m _ _ c.loop-e-test.true c.e-item.is c.loop-e.invariant.reach in
    sym (elim c.then-wanted-e.branch [
      | then-wanted-e-via-then-wanted-e w ↦ walk_open t _ _ m _ _ c.loop-e-test.true c.e-item.is reach w.if-wanted-e.true
      | then-wanted-e-via-else-wanted-e+then-not-passes w ↦ walk_fails t _ _ m _ _ c.loop-e-test.true c.e-item.is reach (sym (told _ _ w.passes.ensures) ∙ w.if-not-passes.true)
    ]) ∙ c.loop-e.invariant.left t told

pub returns-then-e-range : goal.returns-then-e-range
returns-then-e-range g c t told =
    let m = c.ahead_of-e-items.result.now in
    let reach = reached _ m _ _ c.loop-e-test.true c.e-item.is c.loop-e.invariant.reach in
    sym (walk_done t _ _ m _ _ c.loop-e-test.true c.e-item.is reach c.if-wanted-e.false (sym (told _ _ c.passes.ensures) ∙ c.if-not-passes.false) c.if-e-range.true) ∙ c.loop-e.invariant.left t told

pub loop-e-preserved : goal.loop-e-preserved
loop-e-preserved g c =
    let m = c.ahead_of-e-items.result.now in
    let reach = reached _ m _ _ c.loop-e-test.true c.e-item.is c.loop-e.invariant.reach in
    record {
      left = λ t told. sym (walk_on t _ _ m _ _ c.loop-e-test.true c.e-item.is reach c.if-wanted-e.false (sym (told _ _ c.passes.ensures) ∙ c.if-not-passes.false) c.if-e-range.false) ∙ c.loop-e.invariant.left t told;
      reach = ahead_next _ m _ _ c.loop-e-test.true c.e-item.is c.loop-e.invariant.reach;
    }

pub returns : goal.returns
returns g c t told =
    let m = c.ahead_of-e-items.result.now in
    sym (walk_end t _ _ m _ c.loop-e-test.false) ∙ c.loop-e.invariant.left t told
