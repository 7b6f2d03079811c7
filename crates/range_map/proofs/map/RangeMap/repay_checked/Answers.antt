use Rattle.std.proofs.Common.{◌^◌, sym, subst, arith}
use Rattle.range_map.specs.Map.{in_use}
use Rattle.range_map.specs.Plain.{Rising}
use Rattle.range_map.proofs.Slots.{between_repaid, repaid_plain}
use Rattle.range_map.proofs.map.RangeMap.repay_checked.Goals as goal

pub invariant_of-self : goal.invariant_of-self
invariant_of-self g c =
    let s = c.args.self.now in
    record {
      fits = omega (arith, s.fits, c.put.ensures.count, c.put.ensures.slots_stay);
      rising = subst Rising (sym c.put.ensures.after) (between_repaid 0 (2 ^ 62) (in_use s) c.args.i c.args.payload s.rising);
    }

pub returns-clause-in_plain_words : goal.returns-clause-in_plain_words
returns-clause-in_plain_words g c =
    let s = c.args.self.now in
    repaid_plain 0 (2 ^ 62) (in_use s) c.args.i c.args.payload _ s.rising c.put.ensures.after
