use Rattle.std.proofs.Common.{◌≡◌, ◌+◌, min, sym, ◌∙◌, arith}
use Rattle.figures.specs.Limits.{most_total}
use Rattle.register.proofs.Sizes.{adding_none, adding_all, adding_on, adding_over}
use Rattle.register.proofs.counts.count_picked.Goals as goal
use Rattle.register.proofs.counts.count_picked.Goals.{then-picked, else-picked}

pub loop-entry-init : goal.loop-entry-init
loop-entry-init g c = (omega arith, λ t told. adding_none t c.args.entries.now)

pub loop-entry-preserved : goal.loop-entry-preserved
loop-entry-preserved g c =
    elim c.if-picked.branch [
      | then-picked w ↦
          let next : c.if-picked.total ≡ min (c.loop-entry.total + w.size_of.result) most_total = w.total-is ∙ w.min-total.ensures in
          (omega (arith, next), λ t told. adding_on t c.args.entries.now c.loop-entry.total c.loop-entry.entry-index _ (c.loop-entry.invariant.1 t told) c.loop-entry-test.true w.size_of.result c.if-picked.total (sym (told _ _ c.picked.ensures) ∙ w.if-picked.true) w.size_of.ensures.size next)
      | else-picked w ↦
          (omega (arith, w.total-is, c.loop-entry.invariant.0), λ t told. adding_over t c.args.entries.now c.loop-entry.total c.loop-entry.entry-index _ (c.loop-entry.invariant.1 t told) c.loop-entry-test.true c.if-picked.total (sym (told _ _ c.picked.ensures) ∙ w.if-picked.false) w.total-is)
    ]

pub returns : goal.returns
returns g c = record { counted = λ t told. adding_all t c.args.entries.now c.loop-entry.total c.loop-entry.entry-index (c.loop-entry.invariant.1 t told) c.loop-entry-test.false }
