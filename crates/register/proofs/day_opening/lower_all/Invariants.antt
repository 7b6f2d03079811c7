use Rattle.std.proofs.Common.{◌≡◌, drop}
use Rattle.range_map.specs.Map.{in_use}
use Rattle.register.specs.Holdings.{lowered_all}
use Rattle.register.proofs.day_opening.lower_all.Given as goal

abbrev pub invariant-loop-entry : goal.invariant-loop-entry
invariant-loop-entry g l =
    lowered_all l.today.date (in_use l.today.origins.now) (drop l.entry-index l.entries) (g.AccountBook.Book.meaning l.accounts)
    ≡ lowered_all l.today.date (in_use l.today.origins.now) l.entries (g.AccountBook.Book.meaning l.initial.accounts)
