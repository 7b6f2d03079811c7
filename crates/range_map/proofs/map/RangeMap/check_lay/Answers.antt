use Rattle.std.proofs.Common.{sym, ◌∙◌}
use Rattle.range_map.specs.Map.{in_use, slots_of}
use Rattle.range_map.specs.Replies.{plain_lay}
use Rattle.range_map.proofs.Calls.{lay_answer_lem}
use Rattle.range_map.proofs.map.RangeMap.check_lay.Goals as goal

pub returns : goal.returns
returns g c =
    let f = c.args.range.first in
    let l = c.args.range.last in
    let t = g.P.Payload.TABLE in
    let s = c.args.self.now in
    let slots = c.capacity-slots.ensures.all_slots in
    let entries = c.rising.ensures in
    let is = c.judge_lay.ensures ∙ (λ j. plain_lay t (slots j) f l (entries j)) in
    record { reply = is ∙ sym (lay_answer_lem t (slots_of s) f l (in_use s) s.rising); in_plain_words = is }
