use Rattle.std.proofs.Common.{◌≡◌, length, map}
use Rattle.range_map.specs.declared.entry.Entry.{Entry}
use Rattle.range_map.specs.Plain.{ends}
use Rattle.range_map.proofs.Remaking.{remade_to}
use Rattle.range_map.proofs.lent.remake_each.Given as goal

abbrev pub invariant-loop-entry : goal.invariant-loop-entry
invariant-loop-entry g l =
    (length l.entry-items ≡ length l.fn.entries)
    × (map ends l.entry-items ≡ map ends l.fn.entries)
    × ((f : Entry g.row.P.Denot → g.row.P.Denot) → ((e : Entry g.row.P.Denot) (p : g.row.P.Denot) → goal.F-post g l.becomes e p → p ≡ f e) → l.entry-items ≡ remade_to f l.entry-index l.fn.entries)
