use Rattle.std.proofs.Common.{◌+◌, ◌-◌, ◌^◌, ◌≤◌, map, length, sym, ap, ◌∙◌, subst, arith}
use Rattle.std.proofs.lemmas.List.{length-take-le}
use Rattle.range_map.specs.Halving.{place}
use Rattle.range_map.specs.Lent.{entries_in, slots_in}
use Rattle.range_map.specs.Plain.{Rising, change, cut, cuts, cuts_of, repaid}
use Rattle.range_map.proofs.Begins.{high_there, low_there, past_few, place_cut}
use Rattle.range_map.proofs.Cutting.{between_cut, cuts_cut}
use Rattle.range_map.proofs.lent.Lent.change.Goals as goal

pub cut-high-requires-clause-room : goal.cut-high-requires-clause-room
unfolding cuts_of
cut-high-requires-clause-room g c = omega (arith, c.requires.room)

pub cut-low-requires-clause-sound : goal.cut-low-requires-clause-sound
unfolding cuts_of
cut-low-requires-clause-sound g c =
    let l = c.args.range.last in
    record {
      fits = omega (arith, c.requires.room, c.cut-high.ensures.count, c.cut-high.ensures.slots_stay);
      rising = subst Rising (sym c.cut-high.ensures.after) (between_cut (l + 1) 0 (2 ^ 62) (entries_in c.args.self.now) c.requires.sound.rising);
    }

pub cut-low-requires-clause-here : goal.cut-low-requires-clause-here
cut-low-requires-clause-here g c =
    let m = entries_in c.args.self.now in
    let f = c.args.range.first in
    c.places-first.ensures.first ∙ ap (place f) c.rising.ensures ∙ place_cut f c.args.range.last m c.requires.sound.rising c.requires.ordered ∙ sym (ap (place f) c.cut-high.ensures.after)

pub cut-low-requires-clause-room : goal.cut-low-requires-clause-room
unfolding cuts_of
cut-low-requires-clause-room g c =
    let m = entries_in c.args.self.now in
    let f = c.args.range.first in
    let l = c.args.range.last in
    omega (arith, c.requires.room, c.cut-high.ensures.count, c.cut-high.ensures.slots_stay, ap (cuts f) c.cut-high.ensures.after, cuts_cut f l m c.requires.ordered)

pub pay-requires-clause-fits : goal.pay-requires-clause-fits
unfolding cuts_of
pay-requires-clause-fits g c =
    let m = entries_in c.args.self.now in
    let f = c.args.range.first in
    let l = c.args.range.last in
    omega (arith, c.requires.room, c.cut-high.ensures.count, c.cut-high.ensures.slots_stay, c.cut-low.ensures.count, c.cut-low.ensures.slots_stay, ap (cuts f) c.cut-high.ensures.after, cuts_cut f l m c.requires.ordered)

pub pay-requires-clause-low : goal.pay-requires-clause-low
pay-requires-clause-low g c =
    let m = entries_in c.args.self.now in
    let f = c.args.range.first in
    let l = c.args.range.last in
    (low_there f l m c.requires.sound.rising c.requires.ordered (entries_in c.cut-low.new.self) (c.cut-low.ensures.after ∙ ap (cut f) c.cut-high.ensures.after) _ (c.cut-low.ensures.begun ∙ (λ j. (c.places-first.ensures.first ∙ ap (place f) c.rising.ensures) j + cuts f (c.cut-high.ensures.after j)))).0

pub pay-requires-clause-high : goal.pay-requires-clause-high
unfolding cuts_of
pay-requires-clause-high g c =
    let m = entries_in c.args.self.now in
    let f = c.args.range.first in
    let l = c.args.range.last in
    let once : c.cut-high.new.self.used ≤ slots_in c.cut-high.new.self = omega (arith, c.requires.room, c.cut-high.ensures.count, c.cut-high.ensures.slots_stay) in
    let past = c.places-first.ensures.past ∙ ap (place (l + 1)) c.rising.ensures in
    let few : c.cut-high.result ≤ c.cut-high.new.self.used = omega (arith, c.cut-high.ensures.begun, past, past_few f l m c.requires.sound.rising c.requires.ordered, ap length c.cut-high.ensures.after, length-take-le c.cut-high.new.self.used c.cut-high.new.self.slots.now once) in
    (high_there f l m c.requires.sound.rising c.requires.ordered (entries_in c.cut-low.new.self) (c.cut-low.ensures.after ∙ ap (cut f) c.cut-high.ensures.after) (c.cut-low.new.self.used - (c.cut-high.new.self.used - c.cut-high.result)) (omega (arith, few, past, c.cut-high.ensures.begun, c.cut-low.ensures.count, ap (cuts f) c.cut-high.ensures.after))).0

pub pay-requires-clause-within : goal.pay-requires-clause-within
unfolding cuts_of
pay-requires-clause-within g c =
    let m = entries_in c.args.self.now in
    let f = c.args.range.first in
    let l = c.args.range.last in
    let fits : c.cut-low.new.self.used ≤ slots_in c.cut-low.new.self = omega (arith, c.requires.room, c.cut-high.ensures.count, c.cut-high.ensures.slots_stay, c.cut-low.ensures.count, c.cut-low.ensures.slots_stay, ap (cuts f) c.cut-high.ensures.after, cuts_cut f l m c.requires.ordered) in
    let long = length-take-le c.cut-low.new.self.used c.cut-low.new.self.slots.now fits in
    let low = low_there f l m c.requires.sound.rising c.requires.ordered (entries_in c.cut-low.new.self) (c.cut-low.ensures.after ∙ ap (cut f) c.cut-high.ensures.after) c.cut-low.result (c.cut-low.ensures.begun ∙ (λ j. (c.places-first.ensures.first ∙ ap (place f) c.rising.ensures) j + cuts f (c.cut-high.ensures.after j))) in
    (omega (arith, low.1, long), omega arith)

pub overflow_sub-behind : goal.overflow_sub-behind
unfolding cuts_of
overflow_sub-behind g c =
    let m = entries_in c.args.self.now in
    let f = c.args.range.first in
    let l = c.args.range.last in
    let once : c.cut-high.new.self.used ≤ slots_in c.cut-high.new.self = omega (arith, c.requires.room, c.cut-high.ensures.count, c.cut-high.ensures.slots_stay) in
    let past = c.places-first.ensures.past ∙ ap (place (l + 1)) c.rising.ensures in
    let few : c.cut-high.result ≤ c.cut-high.new.self.used = omega (arith, c.cut-high.ensures.begun, past, past_few f l m c.requires.sound.rising c.requires.ordered, ap length c.cut-high.ensures.after, length-take-le c.cut-high.new.self.used c.cut-high.new.self.slots.now once) in
    few

pub overflow_sub-high : goal.overflow_sub-high
overflow_sub-high g c = omega (arith, c.cut-low.ensures.count)

pub returns-clause-after : goal.returns-clause-after
unfolding change
returns-clause-after g c =
    let f = c.args.range.first in
    let l = c.args.range.last in
    c.pay.ensures.after ∙ ap (map (repaid f l c.args.payload)) (c.cut-low.ensures.after ∙ ap (cut f) c.cut-high.ensures.after)

pub returns-clause-fits : goal.returns-clause-fits
unfolding cuts_of
returns-clause-fits g c =
    let m = entries_in c.args.self.now in
    let f = c.args.range.first in
    let l = c.args.range.last in
    let fits : c.cut-low.new.self.used ≤ slots_in c.cut-low.new.self = omega (arith, c.requires.room, c.cut-high.ensures.count, c.cut-high.ensures.slots_stay, c.cut-low.ensures.count, c.cut-low.ensures.slots_stay, ap (cuts f) c.cut-high.ensures.after, cuts_cut f l m c.requires.ordered) in
    omega (arith, fits, c.pay.ensures.count, c.pay.ensures.slots_stay)
