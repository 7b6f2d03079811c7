use Rattle.std.proofs.Common.{◌^◌, sym, ◌∙◌, arith, length-take}
use Rattle.range_map.specs.Map.{entry_of, in_use, slots_of}
use Rattle.range_map.proofs.Calls.{lay_lets, lay_plain, lay_rising}
use Rattle.range_map.proofs.Joining.{laid_is_lay}
use Rattle.range_map.proofs.map.RangeMap.lay_checked.Goals as goal

pub invariant_of-self : goal.invariant_of-self
invariant_of-self g c =
    let s = c.args.self.now in
    let free = lay_lets g.P.Payload.TABLE (slots_of s) c.args.range.first c.args.range.last (in_use s) _ c.requires in
    record {
      fits = omega (arith, free.3, s.fits, length-take s.inner.used s.inner.slots.now, c.lay.ensures.count, c.lay.ensures.slots_stay);
      rising = lay_rising g.P.Payload.TABLE (slots_of s) c.args.range.first c.args.range.last c.args.payload (in_use s) _ s.rising c.requires c.lay.ensures.after;
    }

pub returns-clause-entries : goal.returns-clause-entries
returns-clause-entries g c =
    let s = c.args.self.now in
    c.lay.ensures.after ∙ sym (laid_is_lay 0 (2 ^ 62) (in_use s) s.rising (entry_of c.args.range.first c.args.range.last c.args.payload))

pub returns-clause-in_plain_words : goal.returns-clause-in_plain_words
returns-clause-in_plain_words g c =
    let s = c.args.self.now in
    lay_plain g.P.Payload.TABLE (slots_of s) c.args.range.first c.args.range.last c.args.payload (in_use s) _ s.rising c.requires c.lay.ensures.after
