use Rattle.std.proofs.Common.{◌≡◌, drop}
use Rattle.range_map.specs.Map.{in_use}
use Rattle.register.specs.Holdings.{first_overdue}
use Rattle.register.proofs.answers.check_in_term.Given as goal

abbrev pub invariant-loop-entry : goal.invariant-loop-entry
invariant-loop-entry l =
    first_overdue l.offer l.today.date (in_use l.today.origins.now) (drop l.entry-index l.entries)
    ≡ first_overdue l.offer l.today.date (in_use l.today.origins.now) l.entries
