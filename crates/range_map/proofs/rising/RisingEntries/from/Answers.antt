use Rattle.std.proofs.Common.{◌^◌, ◌-◌, length, drop, sym, subst, arith, length-drop}
use Rattle.std.proofs.lemmas.List.{take_all}
use Rattle.range_map.specs.Plain.{Rising}
use Rattle.range_map.proofs.Joining.{between_drop}
use Rattle.range_map.proofs.rising.RisingEntries.from.Goals as goal

pub invariant_of-result : goal.invariant_of-result
invariant_of-result g c =
    let m = c.args.self.now.entries.now in
    let i = c.args.i in
    record { rising = subst Rising (sym (take_all (length m - i) (drop i m) (simp length-drop (omega arith)))) (between_drop 0 (2 ^ 62) m i c.args.self.now.rising) }
