use Rattle.std.proofs.Common.{◌^◌, ltb, sym, ap, ◌∙◌, rules}
use Rattle.std.specs.Int.{from_bool}
use Rattle.range_map.proofs.Joining.{cuts_next}
use Rattle.range_map.proofs.Stops.{asked, counted, got}
use Rattle.range_map.proofs.rising.RisingEntries.splits.Goals as goal

pub returns-clause-cuts : goal.returns-clause-cuts
returns-clause-cuts g c =
    let m = c.args.self.now.entries.now in
    let n = c.args.n in
    c.«from».ensures ∙ ap from_bool (asked (λ e. ltb e.first n) _ c.get.result _ (λ e h. search rules) c.is_some_and.ensures)
    ∙ counted n _ _ (got m _ c.get.result c.get.ensures.lookup)
    ∙ sym (cuts_next 0 (2 ^ 62) m c.args.self.now.rising n _ c.requires.here)
