use Rattle.std.proofs.Common.{◌≡◌, ◌+◌, ◌-◌, ◌*◌, ◌≤◌}
use Rattle.figures.specs.Digits.{written}
use Rattle.figures.specs.Gs1.{weighted, weighted_sum}
use Rattle.figures.proofs.Weights.{double}
use Rattle.figures.proofs.devices.weighted_sum.Given as goal

abbrev pub invariant-loop-pair : goal.invariant-loop-pair
invariant-loop-pair l = (l.sum ≤ 36 * l._pair) × (l.sum + weighted (written (double (9 - l._pair)) l.rest) ≡ weighted_sum l.number)
