use Rattle.std.proofs.Common.{sym, ◌∙◌}
use Rattle.range_map.specs.Map.{in_use, slots_of}
use Rattle.range_map.specs.Replies.{plain_change}
use Rattle.range_map.proofs.Calls.{change_answer_lem, good_range}
use Rattle.range_map.proofs.Counting.{cut_loses_nothing}
use Rattle.range_map.proofs.Firsts.{gap_first}
use Rattle.range_map.proofs.map.RangeMap.check_change.Goals as goal

pub returns : goal.returns
returns g c =
    let f = c.args.range.first in
    let l = c.args.range.last in
    let t = g.P.Payload.TABLE in
    let s = c.args.self.now in
    let slots = c.capacity-slots.ensures.all_slots in
    let entries = c.rising.ensures in
    let is = c.judge_change.ensures ∙ (λ j. plain_change t (slots j) f l (entries j)) in
    record {
      reply = is ∙ sym (change_answer_lem t (slots_of s) f l (in_use s) s.rising);
      in_plain_words = is;
      cut_loses_nothing = cut_loses_nothing (in_use s);
      uncovered_means = λ good. gap_first f l (in_use s) (good_range f l good).0;
    }
