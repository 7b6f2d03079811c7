-- The lines that the program prints. Assumes nothing.
use Rattle.std.specs.Prelude.{ℕ, List, [], ◌∷◌, ◌++◌, codes}
use Rattle.report.specs.Digits.{digits}

abbrev pub line_end : List ℕ
line_end = 0x0A ∷ []

-- REFUSED, index and place in 6 digits, the number in 2, one blank between
abbrev pub refused_line : ℕ → ℕ → ℕ → List ℕ
refused_line index place number = codes "REFUSED " ++ (digits 6 index ++ (codes " " ++ (digits 6 place ++ (codes " " ++ (digits 2 number ++ line_end)))))

-- LAWFUL and the count in 6 digits
abbrev pub lawful_line : ℕ → List ℕ
lawful_line count = codes "LAWFUL " ++ (digits 6 count ++ line_end)

abbrev pub too_long_line : List ℕ
too_long_line = codes "TOO LONG" ++ line_end
