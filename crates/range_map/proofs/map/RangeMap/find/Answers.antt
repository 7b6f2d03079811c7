use Rattle.std.proofs.Common.{◌^◌, sym, ap, ◌∙◌, subst}
use Rattle.range_map.specs.Laws.{Covering}
use Rattle.range_map.specs.Map.{in_use}
use Rattle.range_map.specs.Plain.{at}
use Rattle.range_map.proofs.Firsts.{at_covering}
use Rattle.range_map.proofs.Joining.{found_is}
use Rattle.range_map.proofs.map.RangeMap.find.Goals as goal

pub returns : goal.returns
returns g c =
    let n = c.args.position in
    let m = in_use c.args.self.now in
    let w = c.args.self.now.rising in
    let is = c.covering.ensures ∙ ap (at n) c.rising.ensures in
    record {
      as_placed = is ∙ sym (found_is 0 (2 ^ 62) m w n);
      in_plain_words = is;
      covering = subst (Covering n m) (sym is) (at_covering n 0 (2 ^ 62) m w);
    }
