use Rattle.std.proofs.Common.{◌≡◌, ◌≤◌, Bool}
use Rattle.figures.specs.Limits.{most_total}
use Rattle.range_map.specs.declared.entry.Entry.{Entry}
use Rattle.register.proofs.Sizes.{Adding}
use Rattle.register.specs.declared.rows.Standing.{Standing}
use Rattle.register.proofs.counts.count_picked.Given as goal

abbrev pub invariant-loop-entry : goal.invariant-loop-entry
invariant-loop-entry g l =
    (l.total ≤ most_total)
    × ((t : Entry Standing → Bool) → ((e : Entry Standing) (b : Bool) → goal.F-post g l.picked e b → b ≡ t e) → Adding t l.entries l.total l.entry-index)
