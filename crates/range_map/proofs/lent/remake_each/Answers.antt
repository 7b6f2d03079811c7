use Rattle.std.proofs.Common.{length-set, ◌∙◌, arith}
use Rattle.range_map.proofs.Remaking.{ends_stay, remade_all, remade_on}
use Rattle.range_map.proofs.lent.remake_each.Goals as goal

pub loop-entry-preserved : goal.loop-entry-preserved
loop-entry-preserved g c =
    let inv = c.loop-entry.invariant in (
      length-set _ _ _ ∙ inv.0,
      ends_stay c.loop-entry.entry-items c.loop-entry.entry-index c.entry-item.result c.becomes-entry.result (omega (arith, inv.0, c.loop-entry-test.true)) ∙ inv.1,
      λ f told. remade_on f c.loop-entry.entry-index c.args.entries.now c.loop-entry.entry-items c.entry-item.result c.becomes-entry.result (inv.2 f told) (omega (arith, inv.0, c.loop-entry-test.true)) (told _ _ c.becomes-entry.ensures),
    )

pub returns : goal.returns
returns g c =
    let inv = c.loop-entry.invariant in
    record { each = λ f told. inv.2 f told ∙ remade_all f c.loop-entry.entry-index c.args.entries.now (omega (arith, inv.0, c.loop-entry-test.false)); ranges_stay = inv.1 }
