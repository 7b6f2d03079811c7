-- GS1's rule of a device number. Assumes nothing.
use Rattle.std.specs.Prelude.{ℕ, ◌+◌, ◌*◌, ◌%◌, ◌^◌, Bool, ◌&&◌, List, [], ◌∷◌, ◌==◌, nat_lt}
use Rattle.figures.specs.Digits.{written}

-- digits in odd places from the left times 3, the others times 1, added up
abbrev pub weighted : List ℕ → ℕ
weighted [] = 0
weighted (a ∷ []) = 3 * a
weighted (a ∷ b ∷ rest) = 3 * a + b + weighted rest

-- of the number's 18 digits
unfoldable pub weighted_sum : ℕ → ℕ
weighted_sum n = weighted (written 18 n)

-- 18 digits, not 0, and the weighted sum divides by 10
abbrev pub gs1 : ℕ → Bool
gs1 n = nat_lt 0 n && (nat_lt n (10 ^ 18) && weighted_sum n % 10 == 0)
