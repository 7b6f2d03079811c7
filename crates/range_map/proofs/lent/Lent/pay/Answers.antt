use Rattle.std.proofs.Common.{take, ap, ◌∙◌, arith}
use Rattle.std.proofs.lemmas.List.{length-take-le}
use Rattle.range_map.specs.Lent.{entries_in}
use Rattle.range_map.proofs.Moves.{low_high, pay_is}
use Rattle.range_map.proofs.lent.Lent.pay.Goals as goal

pub pay_within-requires-clause-ordered : goal.pay_within-requires-clause-ordered
pay_within-requires-clause-ordered g c =
    let s = c.args.self.now in
    low_high c.args.range.first c.args.range.last c.args.payload (entries_in s) _ _ c.requires.ordered (omega (arith, length-take-le s.used s.slots.now c.requires.fits, c.requires.within.0)) c.requires.low c.requires.high

pub returns-clause-after : goal.returns-clause-after
returns-clause-after g c =
    let s = c.args.self.now in
    let ordered = low_high c.args.range.first c.args.range.last c.args.payload (entries_in s) _ _ c.requires.ordered (omega (arith, length-take-le s.used s.slots.now c.requires.fits, c.requires.within.0)) c.requires.low c.requires.high in
    ap (take s.used) c.pay_within.ensures.after
    ∙ pay_is c.args.range.first c.args.range.last c.args.payload s.slots.now s.used _ _ ordered c.requires.within.1 c.requires.fits c.requires.low c.requires.high
