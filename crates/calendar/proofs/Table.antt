-- The table's rule, computed over all of its entries and carried to each. Assumes nothing.
use Rattle.std.proofs.Common.{◌≡◌, ℕ, zero, suc, ◌+◌, ◌-◌, ◌<◌, ◌≤◌, true, eqb, leb, List, [], ◌∷◌, length, get_or, sym, refl, ap, ◌∙◌, ⊎_elim, arith}
use Rattle.std.proofs.lemmas.Bool.{and_parts, cases_lt, eqb-true}
use Rattle.std.proofs.lemmas.List.Sorted.{IsNonDecreasingBy-from_default, IsPartitionedBy-leb}
use Rattle.std.specs.List.Sorted.{IsNonDecreasingBy, IsPartitionedBy}
use Rattle.calendar.specs.Dates.{follows, month_start}
use Rattle.calendar.proofs.Counting.{length_of, month_start_suc}

from : (xs : List ℕ) (k : ℕ) → get_or xs 0 0 ≡ month_start k → follows k xs ≡ true → (i : ℕ) → i < length xs → get_or xs i 0 ≡ month_start (k + i)
from [] k h t i l = absurd (omega arith)
from (a ∷ xs) k h t zero l = let e : k ≡ k + 0 = omega arith in h ∙ ap month_start e
from (a ∷ []) k h t (suc i) l = absurd (omega arith)
from (a ∷ b ∷ xs) k h t (suc i) l =
    let parts = and_parts (eqb b (a + length_of k)) (follows (suc k) (b ∷ xs)) t in
    let next : k + 1 ≡ suc k = omega arith in
    let start : b ≡ month_start (suc k) = eqb-true b (a + length_of k) parts.0 ∙ ap (λ n. n + length_of k) h ∙ sym (month_start_suc k) ∙ ap month_start next in
    let e : suc k + i ≡ k + suc i = omega arith in
    from (b ∷ xs) (suc k) start parts.1 i (omega arith) ∙ ap month_start e

pub carried : (xs : List ℕ) → get_or xs 0 0 ≡ 0 → follows 0 xs ≡ true → (i : ℕ) → i < length xs → get_or xs i 0 ≡ month_start i
unfolding month_start
carried xs h t i l = let e : 0 + i ≡ i = omega arith in from xs 0 h t i l ∙ ap month_start e

-- the months begin one after the other
later : (i k : ℕ) → month_start i ≤ month_start (i + k)
later i zero = let e : i + 0 ≡ i = omega arith in omega (arith, ap month_start e)
later i (suc k) = let e : i + suc k ≡ suc (i + k) = omega arith in let n : suc (i + k) ≡ (i + k) + 1 = omega arith in omega (arith, later i k, ap month_start e, ap month_start n, month_start_suc (i + k))

in_order : (i j : ℕ) → i ≤ j → month_start i ≤ month_start j
in_order i j le = let e : i + (j - i) ≡ j = omega arith in omega (arith, later i (j - i), ap month_start e)

-- so the table is in order
rises : (xs : List ℕ) → get_or xs 0 0 ≡ 0 → follows 0 xs ≡ true → IsNonDecreasingBy (λ n. n) xs
rises xs h t = IsNonDecreasingBy-from_default (λ n. n) xs 0 (λ i j le l. omega (arith, carried xs h t i (omega arith), carried xs h t j l, in_order i j le))

pub split : (xs : List ℕ) (day : ℕ) → get_or xs 0 0 ≡ 0 → follows 0 xs ≡ true → IsPartitionedBy (λ n. leb n day) xs
split xs day h t = IsPartitionedBy-leb (λ n. n) xs day (rises xs h t)

pub working_months : month_start 600 ≡ 18263
unfolding month_start
working_months = refl

pub first_month : month_start 0 ≡ 0
unfolding month_start
first_month = refl

-- of the months that have begun by a working day there is one, and they are at most 600
pub one_begun : (begun day : ℕ) → ((m : ℕ) → begun ≤ m → m < 625 → day < month_start m) → 1 ≤ begun
one_begun begun day to_come = ⊎_elim (λ none. absurd (omega (arith, none, first_month, to_come 0 (omega (arith, none)) (omega arith)))) (λ some. some) (cases_lt begun 1)

pub few_begun : (begun day : ℕ) → day ≤ 18262 → ((m : ℕ) → m < begun → month_start m ≤ day) → begun ≤ 600
few_begun begun day working by = ⊎_elim (λ few. omega (arith, few)) (λ many. absurd (omega (arith, many, working, working_months, by 600 (omega (arith, many))))) (cases_lt begun 601)
