use Rattle.std.proofs.Common.{◌^◌, sym, ◌∙◌}
use Rattle.range_map.specs.Map.{in_use, slots_of}
use Rattle.range_map.proofs.Calls.{change_lets, change_plain, change_rising}
use Rattle.range_map.proofs.Joining.{changed_is_change}
use Rattle.range_map.proofs.map.RangeMap.change_checked.Goals as goal

pub invariant_of-self : goal.invariant_of-self
invariant_of-self g c =
    let s = c.args.self.now in
    record {
      fits = c.change.ensures.fits;
      rising = change_rising g.P.Payload.TABLE (slots_of s) c.args.range.first c.args.range.last c.args.payload (in_use s) _ s.rising c.requires c.change.ensures.after;
    }

pub returns-clause-entries : goal.returns-clause-entries
returns-clause-entries g c =
    let s = c.args.self.now in
    let lets = change_lets g.P.Payload.TABLE (slots_of s) c.args.range.first c.args.range.last (in_use s) _ c.requires in
    c.change.ensures.after ∙ sym (changed_is_change c.args.range.first c.args.range.last 0 (2 ^ 62) (in_use s) s.rising lets.0 c.args.payload)

pub returns-clause-in_plain_words : goal.returns-clause-in_plain_words
returns-clause-in_plain_words g c =
    let s = c.args.self.now in
    change_plain g.P.Payload.TABLE (slots_of s) c.args.range.first c.args.range.last c.args.payload (in_use s) _ s.rising c.requires c.change.ensures.after
