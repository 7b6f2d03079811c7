-- When a certificate is past its term. Assumes nothing.
use Rattle.std.specs.Prelude.{ℕ, Bool, cond, is_some, Some, None, Option, nat_lt}
use Rattle.calendar.specs.Dates.{last_valid_day, working}
use Rattle.register.specs.declared.rows.Origin.{Origin}

-- the last valid day by the last production day; a day past the last working day reads as that one
abbrev pub valid_until : ℕ → ℕ
valid_until day = last_valid_day (working day)

-- the last valid day of a certificate that is past its term on that date; without an origin it is in term
abbrev pub overdue : ℕ → Option Origin → Option ℕ
overdue date None = None
overdue date (Some o) = cond (nat_lt (valid_until o.last_day) date) (Some (valid_until o.last_day)) None

abbrev pub lapsed : ℕ → Option Origin → Bool
lapsed date origin = is_some (overdue date origin)
