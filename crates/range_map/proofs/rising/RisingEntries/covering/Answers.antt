use Rattle.std.proofs.Common.{◌^◌, leb, sym, ap, ◌∙◌, rules}
use Rattle.std.specs.Option.{option_and_then}
use Rattle.range_map.specs.Plain.{holding}
use Rattle.range_map.proofs.Joining.{at_next}
use Rattle.range_map.proofs.Stops.{filtered, got}
use Rattle.range_map.proofs.rising.RisingEntries.covering.Goals as goal

pub returns : goal.returns
returns g c =
    let m = c.args.self.now.entries.now in
    let n = c.args.position in
    filtered (λ e. leb e.first n) _ c.copied.result _ (λ e b h. search rules) c.filter.ensures
    ∙ ap (option_and_then (holding n)) (c.copied.ensures ∙ got m _ c.get.result c.get.ensures.lookup)
    ∙ sym (at_next 0 (2 ^ 62) m c.args.self.now.rising n _ c.find-i.ensures.place)
