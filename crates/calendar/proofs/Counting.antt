-- Day numbers and dates, month by month. Assumes nothing.
use Rattle.std.proofs.Common.{◌≡◌, ℕ, zero, suc, ◌+◌, ◌-◌, ◌*◌, ◌/◌, ◌%◌, ◌<◌, ◌≤◌, min, cond, ◌||◌, eqb, sym, refl, ap, ◌∙◌, ⊎_elim, add-zero, arith}
use Rattle.std.proofs.lemmas.Bool.{lt-ltb, le-ltb, cases_lt, cond-true, cond-false, cond_both}
use Rattle.calendar.specs.Dates.{leap, month_length, date, day_after, date_of, month_start, day_number, twelve_months_on, last_valid_day}

-- month k, counted from January 2000
abbrev pub year_of : ℕ → ℕ
year_of k = 2000 + k / 12

abbrev pub month_of : ℕ → ℕ
month_of k = k % 12 + 1

abbrev pub length_of : ℕ → ℕ
length_of k = month_length (year_of k) (month_of k)

pub month_bounds : (y m : ℕ) → (28 ≤ month_length y m) × (month_length y m ≤ 31)
month_bounds y m =
    cond_both (eqb m 2) (cond (leap y) 29 28) (cond (eqb m 4 || (eqb m 6 || (eqb m 9 || eqb m 11))) 30 31) (λ n. (28 ≤ n) × (n ≤ 31))
    (λ _. cond_both (leap y) 29 28 (λ n. (28 ≤ n) × (n ≤ 31)) (λ _. omega arith) (λ _. omega arith))
    (λ _. cond_both (eqb m 4 || (eqb m 6 || (eqb m 9 || eqb m 11))) 30 31 (λ n. (28 ≤ n) × (n ≤ 31)) (λ _. omega arith) (λ _. omega arith))

pub month_start_suc : (k : ℕ) → month_start (k + 1) ≡ month_start k + length_of k
unfolding month_start
month_start_suc k = let e : k + 1 ≡ suc k = omega arith in ap month_start e

day_after_inside : (y m d : ℕ) → d < month_length y m → day_after (date y m d) ≡ date y m (d + 1)
day_after_inside y m d h = cond-true _ _ _ (lt-ltb d (month_length y m) h)

day_after_last : (y m d : ℕ) → month_length y m ≤ d → m < 12 → day_after (date y m d) ≡ date y (m + 1) 1
day_after_last y m d h k = cond-false _ _ _ (le-ltb d (month_length y m) h) ∙ cond-true _ _ _ (lt-ltb m 12 k)

day_after_december : (y m d : ℕ) → month_length y m ≤ d → 12 ≤ m → day_after (date y m d) ≡ date (y + 1) 1 1
day_after_december y m d h k = cond-false _ _ _ (le-ltb d (month_length y m) h) ∙ cond-false _ _ _ (le-ltb m 12 k)

date_suc : (n : ℕ) → date_of (suc n) ≡ day_after (date_of n)
unfolding date_of
date_suc n = refl

same_date : (a b c d e f : ℕ) → a ≡ d → b ≡ e → c ≡ f → date a b c ≡ date d e f
same_date a b c d e f p q r = λ i. date (p i) (q i) (r i)

-- the days of month k, if its first day has its date
days_of : (k : ℕ) → date_of (month_start k) ≡ date (year_of k) (month_of k) 1 → (j : ℕ) → j < length_of k → date_of (month_start k + j) ≡ date (year_of k) (month_of k) (j + 1)
days_of k h zero l = ap date_of (add-zero (month_start k)) ∙ h
days_of k h (suc j) l =
    let e : month_start k + suc j ≡ suc (month_start k + j) = omega arith in
    ap date_of e ∙ date_suc (month_start k + j) ∙ ap day_after (days_of k h j (omega arith)) ∙ day_after_inside (year_of k) (month_of k) (j + 1) (omega arith)
    ∙ ap (date (year_of k) (month_of k)) (omega arith)

next_month : (k j : ℕ) → j + 1 ≡ length_of k → day_after (date (year_of k) (month_of k) (j + 1)) ≡ date (year_of (suc k)) (month_of (suc k)) 1
next_month k j l =
    ⊎_elim
    (λ h. day_after_last (year_of k) (month_of k) (j + 1) (omega arith) h ∙ same_date _ _ _ _ _ _ (omega arith) (omega arith) refl)
    (λ h. day_after_december (year_of k) (month_of k) (j + 1) (omega arith) h ∙ same_date _ _ _ _ _ _ (omega arith) (omega arith) refl)
    (cases_lt (month_of k) 12)

first_of : (k : ℕ) → date_of (month_start k) ≡ date (year_of k) (month_of k) 1
unfolding date_of month_start
first_of zero = refl
first_of (suc k) =
    let b = month_bounds (year_of k) (month_of k) in
    let e : month_start k + length_of k ≡ suc (month_start k + (length_of k - 1)) = omega arith in
    let l : (length_of k - 1) + 1 ≡ length_of k = omega arith in
    ap date_of e ∙ date_suc (month_start k + (length_of k - 1)) ∙ ap day_after (days_of k (first_of k) (length_of k - 1) (omega arith)) ∙ next_month k (length_of k - 1) l

-- the date of the day j days into month k
pub date_in_month : (k j : ℕ) → j < length_of k → date_of (month_start k + j) ≡ date (year_of k) (month_of k) (j + 1)
date_in_month k j l = days_of k (first_of k) j l

-- the day of that date again
pub number_in_month : (k j : ℕ) → day_number (date (year_of k) (month_of k) (j + 1)) ≡ month_start k + j
unfolding day_number
number_in_month k j =
    let m : 12 * (year_of k - 2000) + (month_of k - 1) ≡ k = omega arith in
    let d : (j + 1) - 1 ≡ j = omega arith in
    λ i. month_start (m i) + d i

twelve_on : (k j : ℕ) → twelve_months_on (date (year_of k) (month_of k) (j + 1)) ≡ date (year_of (k + 12)) (month_of (k + 12)) (min j (length_of (k + 12) - 1) + 1)
unfolding twelve_months_on
twelve_on k j =
    let y : year_of k + 1 ≡ year_of (k + 12) = omega arith in
    let m : month_of k ≡ month_of (k + 12) = omega arith in
    let b = month_bounds (year_of (k + 12)) (month_of (k + 12)) in
    let l : month_length (year_of k + 1) (month_of k) ≡ length_of (k + 12) = λ i. month_length (y i) (m i) in
    same_date _ _ _ _ _ _ y m (omega (arith, l))

-- j days into month k, the last valid day is j days into month k + 12, or its last day
pub last_valid_in_month : (k j : ℕ) → j < length_of k → last_valid_day (month_start k + j) ≡ month_start (k + 12) + min j (length_of (k + 12) - 1)
unfolding last_valid_day
last_valid_in_month k j l =
    ap (λ d. day_number (twelve_months_on d)) (date_in_month k j l) ∙ ap day_number (twelve_on k j) ∙ number_in_month (k + 12) (min j (length_of (k + 12) - 1))

-- and has the date that is asked for
pub last_valid_date : (k j : ℕ) → j < length_of k → date_of (month_start (k + 12) + min j (length_of (k + 12) - 1)) ≡ twelve_months_on (date_of (month_start k + j))
last_valid_date k j l =
    let b = month_bounds (year_of (k + 12)) (month_of (k + 12)) in
    date_in_month (k + 12) (min j (length_of (k + 12) - 1)) (omega arith) ∙ sym (twelve_on k j) ∙ ap twelve_months_on (sym (date_in_month k j l))

pub month_start_small : (k : ℕ) → month_start k ≤ 31 * k
unfolding month_start
month_start_small zero = omega arith
month_start_small (suc k) = omega (arith, month_start_small k, month_bounds (year_of k) (month_of k))
