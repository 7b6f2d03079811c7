-- The limits of the register, as contracts cite them. Assumes nothing.
use Rattle.std.specs.Prelude.{ℕ}

-- watt-hours in one certificate
abbrev pub certificate_size : ℕ
certificate_size = 1_000_000

-- certificate numbers run from 1 to this one
abbrev pub last_certificate_number : ℕ
last_certificate_number = 999_999_999_999

-- the most watt-hours of one declaration
abbrev pub most_energy : ℕ
most_energy = 1_000_000_000_000

-- account numbers run from 1 to this one
abbrev pub last_account_number : ℕ
last_account_number = 999_999

-- where a member's totals stop
abbrev pub most_total : ℕ
most_total = 999_999_999_999

-- the most members of a book, and the most offers and cancellations that count
abbrev pub most_members : ℕ
most_members = 99_999_999

-- the last working day
abbrev pub last_working_day : ℕ
last_working_day = 18_262

-- the years that a cancellation may name
abbrev pub first_year : ℕ
first_year = 2000

abbrev pub last_year : ℕ
last_year = 2049

-- the most bytes of an order file that the program takes
abbrev pub most_file_bytes : ℕ
most_file_bytes = 65_536
