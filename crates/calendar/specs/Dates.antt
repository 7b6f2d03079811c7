-- The Gregorian calendar from 1 January 2000, and the last valid day of a certificate. Assumes nothing.
use Rattle.std.specs.Prelude.{ℕ, zero, suc, ◌+◌, ◌-◌, ◌*◌, ◌/◌, ◌%◌, min, Bool, true, cond, not, ◌&&◌, ◌||◌, List, [], ◌∷◌, ◌==◌, nat_lt}
use Rattle.figures.specs.Limits.{last_working_day}
use Rattle.calendar.specs.declared.dates.Date.{Date}

-- a leap year divides by 4, but by 100 only if by 400
abbrev pub leap : ℕ → Bool
leap y = (y % 4 == 0 && not (y % 100 == 0)) || y % 400 == 0

-- how many days a month has, January is 1
abbrev pub month_length : ℕ → ℕ → ℕ
month_length y m = cond (m == 2) (cond (leap y) 29 28) (cond (m == 4 || (m == 6 || (m == 9 || m == 11))) 30 31)

abbrev pub date : ℕ → ℕ → ℕ → Date
date y m d = record { year = y; month = m; day = d }

-- the day after: the next of the month, or the first of the next month, or the first of January
abbrev pub day_after : Date → Date
day_after d =
    cond (nat_lt d.day (month_length d.year d.month)) (date d.year d.month (d.day + 1))
    (cond (nat_lt d.month 12) (date d.year (d.month + 1) 1) (date (d.year + 1) 1 1))

-- the date of a day
unfoldable pub date_of : ℕ → Date
date_of zero = date 2000 1 1
date_of (suc n) = day_after (date_of n)

-- the first day of a month, the months counted from January 2000
unfoldable pub month_start : ℕ → ℕ
month_start zero = 0
month_start (suc k) = month_start k + month_length (2000 + k / 12) (k % 12 + 1)

-- the rule of a table of month starts: each entry exceeds the one before by that month's length; k is the first entry's month
abbrev pub follows : ℕ → List ℕ → Bool
follows k [] = true
follows k (a ∷ []) = true
follows k (a ∷ b ∷ rest) = b == a + month_length (2000 + k / 12) (k % 12 + 1) && follows (suc k) (b ∷ rest)

-- the day of a date: the whole months before its month, and the days before it
unfoldable pub day_number : Date → ℕ
day_number d = month_start (12 * (d.year - 2000) + (d.month - 1)) + (d.day - 1)

-- the same day of the month twelve months after, or that month's last day if it is too short
unfoldable pub twelve_months_on : Date → Date
twelve_months_on d = date (d.year + 1) d.month (min d.day (month_length (d.year + 1) d.month))

unfoldable pub last_valid_day : ℕ → ℕ
last_valid_day n = day_number (twelve_months_on (date_of n))

-- a day past the last working day reads as that one
abbrev pub working : ℕ → ℕ
working n = min n last_working_day
