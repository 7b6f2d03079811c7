use Rattle.std.proofs.Common.{◌^◌, sym, ap, ◌∙◌, subst}
use Rattle.range_map.specs.Laws.{FirstTaken}
use Rattle.range_map.specs.Map.{in_use}
use Rattle.range_map.specs.Plain.{hit}
use Rattle.range_map.proofs.Firsts.{hit_first}
use Rattle.range_map.proofs.Joining.{taken_is}
use Rattle.range_map.proofs.map.RangeMap.taken.Goals as goal

pub returns : goal.returns
returns g c =
    let f = c.args.range.first in
    let l = c.args.range.last in
    let m = in_use c.args.self.now in
    let w = c.args.self.now.rising in
    let is = c.first_taken.ensures ∙ ap (hit f l) c.rising.ensures in
    record {
      as_placed = is ∙ sym (taken_is 0 (2 ^ 62) m w f l);
      in_plain_words = subst (FirstTaken f l m) (sym is) (hit_first f l 0 (2 ^ 62) m w);
    }
