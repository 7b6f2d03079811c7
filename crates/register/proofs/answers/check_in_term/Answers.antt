use Rattle.std.proofs.Common.{sym, refl, ap, ◌∙◌}
use Rattle.range_map.specs.Map.{in_use}
use Rattle.register.specs.Answers.{past_term}
use Rattle.register.proofs.Overdue.{overdue_here, overdue_on, overdue_end}
use Rattle.register.proofs.answers.check_in_term.Goals as goal

pub loop-entry-init : goal.loop-entry-init
loop-entry-init c = refl

pub returns-in-Some : goal.returns-in-Some
returns-in-Some c =
    record { verdict = ap past_term (sym (overdue_here c.args.offer c.args.today.date (in_use c.args.today.origins.now) c.args.entries.now c.loop-entry.entry-index _ c.in-Some.last_valid c.loop-entry-test.true (sym c.in-Some.ensures.overdue)) ∙ c.loop-entry.invariant) }

pub loop-entry-preserved : goal.loop-entry-preserved
loop-entry-preserved c =
    sym (overdue_on c.args.offer c.args.today.date (in_use c.args.today.origins.now) c.args.entries.now c.loop-entry.entry-index _ c.loop-entry-test.true (sym c.in_default.ensures.overdue))
    ∙ c.loop-entry.invariant

pub returns : goal.returns
returns c =
    record { verdict = ap past_term (sym (overdue_end c.args.offer c.args.today.date (in_use c.args.today.origins.now) c.args.entries.now c.loop-entry.entry-index c.loop-entry-test.false) ∙ c.loop-entry.invariant) }
