use Rattle.std.proofs.Common.{sym, arith}
use Rattle.range_map.proofs.Remaking.{rising_ends}
use Rattle.range_map.proofs.map.RangeMap.remake.Goals as goal

pub invariant_of-self : goal.invariant_of-self
invariant_of-self g c =
    let s = c.args.self.now in
    record {
      fits = omega (arith, s.fits, c.remake.ensures.count, c.remake.ensures.slots_stay);
      rising = rising_ends _ _ (sym c.remake.ensures.ranges_stay) s.rising;
    }
