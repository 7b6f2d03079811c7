use Rattle.std.proofs.Common.{◌∙◌, refl, arith, rules, length-set}
use Rattle.range_map.proofs.Moves.{cut_inside, read_there}
use Rattle.range_map.proofs.lent.Lent.cut.Goals as goal

pub returns-in_default : goal.returns-in_default
returns-in_default g c =
    let s = c.args.self.now in
    let n = c.args.n in
    let h = read_there s.slots.now s.used c.args.i n c.requires.sound.fits c.requires.sound.rising c.requires.here _ c.entries.ensures _ c.get.ensures.lookup _ _ _ c.copied.ensures _ (λ e b h. search rules) c.filter.ensures c.in_default.is in
    record { after = h.0; begun = omega (arith, h.1); count = omega (arith, h.1); slots_stay = refl }

pub insert-requires : goal.insert-requires
insert-requires g c =
    let s = c.args.self.now in
    let n = c.args.n in
    let h = read_there s.slots.now s.used c.args.i n c.requires.sound.fits c.requires.sound.rising c.requires.here _ c.entries.ensures _ c.get.ensures.lookup _ _ _ c.copied.ensures _ (λ e b h. search rules) c.filter.ensures c.in-Some.is in
    record { within = omega (arith, h.0); room = simp length-set (omega (arith, h.3)) }

pub returns : goal.returns
returns g c =
    let s = c.args.self.now in
    let n = c.args.n in
    let h = read_there s.slots.now s.used c.args.i n c.requires.sound.fits c.requires.sound.rising c.requires.here _ c.entries.ensures _ c.get.ensures.lookup _ _ _ c.copied.ensures _ (λ e b h. search rules) c.filter.ensures c.in-Some.is in
    record {
      after = cut_inside s.slots.now s.used c.args.i n c.requires.sound.fits c.requires.sound.rising c.requires.here c.in-Some.e h.0 h.1 h.2 _ _ c.lower_part.ensures c.upper_part.ensures _ c.insert.ensures.after;
      begun = omega (arith, h.3);
      count = omega (arith, h.3, c.insert.ensures.count);
      slots_stay = c.insert.ensures.slots_stay ∙ length-set _ _ _;
    }
