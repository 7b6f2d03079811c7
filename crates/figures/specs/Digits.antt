-- Numbers written with a fixed count of decimal digits. Assumes nothing.
use Rattle.std.specs.Prelude.{ℕ, zero, suc, ◌/◌, ◌%◌, List, [], ◌∷◌, ◌++◌}

-- n written with k decimal digits, leading zeros included (a longer number's last k)
abbrev pub written : ℕ → ℕ → List ℕ
written zero n = []
written (suc k) n = written k (n / 10) ++ (n % 10 ∷ [])
