-- Decimal digits as they print. Assumes nothing.
use Rattle.std.specs.Prelude.{ℕ, ◌+◌, List, map}
use Rattle.figures.specs.Digits.{written}

-- n in k digits, leading zeros included; of a longer number its last k. 48 is the code of 0
unfoldable pub digits : ℕ → ℕ → List ℕ
digits k n = map (λ d. 48 + d) (written k n)
