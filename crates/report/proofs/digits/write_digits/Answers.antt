use Rattle.std.proofs.Common.{◌∙◌, arith}
use Rattle.report.proofs.Figures.{digit_next, digits_end}
use Rattle.report.proofs.digits.write_digits.Goals as goal

pub loop-place-preserved : goal.loop-place-preserved
loop-place-preserved c = digit_next _ _ _ _ c.loop-place-test.true (omega arith) c.digit_byte.ensures.byte ∙ c.loop-place.invariant

pub returns : goal.returns
returns c = record { digits = digits_end _ _ _ c.loop-place-test.false ∙ c.loop-place.invariant }
