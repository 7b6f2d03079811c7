use Rattle.std.proofs.Common.{◌+◌, ◌^◌, drop, ap, ◌∙◌}
use Rattle.range_map.specs.Halving.{place}
use Rattle.range_map.proofs.Joining.{place_on}
use Rattle.range_map.proofs.rising.RisingEntries.places.Goals as goal

pub returns-clause-past : goal.returns-clause-past
returns-clause-past g c =
    let m = c.args.self.now.entries.now in
    let l = c.args.range.last in
    let first = c.find-first.ensures.place in
    (λ j. first j + (c.find.ensures.place ∙ ap (place (l + 1)) (c.«from».ensures ∙ ap (λ i. drop i m) first)) j)
    ∙ place_on c.args.range.first l 0 (2 ^ 62) m c.args.self.now.rising c.requires.ordered
