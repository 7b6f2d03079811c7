use Rattle.std.proofs.Common.{◌^◌, true, ◌∙◌, rules}
use Rattle.range_map.proofs.Joining.{failing_is_gap_by, gap_by_any}
use Rattle.range_map.proofs.rising.RisingEntries.first_uncovered.Goals as goal

pub returns : goal.returns
returns g c =
    let m = c.args.self.now.entries.now in
    let f = c.args.range.first in
    let l = c.args.range.last in
    c.first_failing.ensures (λ _. true) (λ p b h. search rules) ∙ failing_is_gap_by 0 (2 ^ 62) m c.args.self.now.rising (λ _. true) f l ∙ gap_by_any f l m
