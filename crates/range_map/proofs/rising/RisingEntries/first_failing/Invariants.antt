use Rattle.std.proofs.Common.{◌≡◌, Bool, drop}
use Rattle.range_map.specs.Placed.{rest}
use Rattle.range_map.specs.Plain.{gap_by}
use Rattle.range_map.proofs.Stops.{Ahead}
use Rattle.range_map.proofs.rising.RisingEntries.first_failing.Given as goal

abbrev pub invariant-loop-e : goal.invariant-loop-e
invariant-loop-e g l = record {
  left : (t : g.row.P.Denot → Bool) → ((p : g.row.P.Denot) (b : Bool) → goal.F-post g l.passes p b → b ≡ t p) → gap_by t l.wanted l.range.last (drop l.e-index l.e-items) ≡ gap_by t l.range.first l.range.last (rest l.range.first l.self.entries.now);
  reach : Ahead l.wanted (drop l.e-index l.e-items);
}
