-- The weighted sum of a device number, two digits at a time from the right. Assumes nothing.
use Rattle.std.proofs.Common.{◌≡◌, ℕ, zero, suc, ◌+◌, ◌-◌, ◌*◌, ◌/◌, ◌%◌, ◌<◌, ◌≤◌, List, [], ◌∷◌, ◌++◌, length, refl, ap, ◌∙◌, arith}
use Rattle.std.proofs.lemmas.List.{append_assoc, length_push}
use Rattle.figures.specs.Digits.{written}
use Rattle.figures.specs.Gs1.{weighted, weighted_sum}

abbrev pub double : ℕ → ℕ
double zero = zero
double (suc j) = suc (suc (double j))

weighted_append : (j : ℕ) (xs ys : List ℕ) → length xs ≡ double j → weighted (xs ++ ys) ≡ weighted xs + weighted ys
weighted_append zero [] ys h = omega arith
weighted_append zero (a ∷ xs) ys h = absurd (omega (arith, h))
weighted_append (suc j) [] ys h = absurd (omega (arith, h))
weighted_append (suc j) (a ∷ []) ys h = absurd (omega (arith, h))
weighted_append (suc j) (a ∷ b ∷ xs) ys h = omega (arith, weighted_append j xs ys (omega (arith, h)))

pub length_written : (k n : ℕ) → length (written k n) ≡ k
length_written zero n = refl
length_written (suc k) n = omega (arith, length_push (written k (n / 10)) (n % 10), length_written k (n / 10))

-- one pair more
pub weighted_pair : (j n : ℕ) → weighted (written (double (suc j)) n) ≡ weighted (written (double j) (n / 10 / 10)) + (3 * (n / 10 % 10) + n % 10)
weighted_pair j n =
    ap weighted (append_assoc (written (double j) (n / 10 / 10)) (n / 10 % 10 ∷ []) (n % 10 ∷ []))
    ∙ weighted_append j (written (double j) (n / 10 / 10)) (n / 10 % 10 ∷ n % 10 ∷ []) (length_written (double j) (n / 10 / 10))
    ∙ ap (λ s. weighted (written (double j) (n / 10 / 10)) + s) (omega arith)

-- the loop's step: pairs left of 9
pub pairs_less : (p n : ℕ) → p < 9 → weighted (written (double (9 - p)) n) ≡ weighted (written (double (9 - (p + 1))) (n / 10 / 10)) + (3 * (n / 10 % 10) + n % 10)
pairs_less p n h =
    let more : 9 - p ≡ suc (9 - (p + 1)) = omega arith in
    ap (λ k. weighted (written (double k) n)) more ∙ weighted_pair (9 - (p + 1)) n

pub all_pairs : (n : ℕ) → weighted (written (double 9) n) ≡ weighted_sum n
unfolding weighted_sum
all_pairs n = refl

pub no_pair : (p n : ℕ) → 9 ≤ p → weighted (written (double (9 - p)) n) ≡ 0
no_pair p n h =
    let none : 9 - p ≡ 0 = omega arith in
    ap (λ k. weighted (written (double k) n)) none
