use Rattle.std.proofs.Common.{◌^◌, leb, max, sym, ap, ◌∙◌, rules}
use Rattle.std.specs.Option.{option_and_then}
use Rattle.range_map.specs.Plain.{meeting}
use Rattle.range_map.proofs.Joining.{hit_next}
use Rattle.range_map.proofs.Stops.{filtered, got, mapped, met}
use Rattle.range_map.proofs.rising.RisingEntries.first_taken.Goals as goal

pub returns : goal.returns
returns g c =
    let m = c.args.self.now.entries.now in
    let f = c.args.range.first in
    let l = c.args.range.last in
    filtered (λ k. leb k l) _ c.map.result _ (λ k b h. search rules) c.filter.ensures
    ∙ ap (option_and_then _) (mapped (λ e. max f e.first) _ c.get.result _ (λ e k h. search rules) c.map.ensures.cases)
    ∙ met f l _ ∙ ap (option_and_then (meeting f l)) (got m _ c.get.result c.get.ensures.lookup)
    ∙ sym (hit_next 0 (2 ^ 62) m c.args.self.now.rising f _ c.find-i.ensures.place l)
