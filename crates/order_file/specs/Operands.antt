-- When an operand is lawful. Assumes nothing.
use Rattle.std.specs.Prelude.{ℕ, Bool, not, ◌&&◌, List, ◌==◌, nat_le, slice_index}
use Rattle.std.specs.List.{list_all}
use Rattle.figures.specs.Limits.{last_certificate_number, last_working_day, most_energy, first_year, last_year}

-- certificate numbers from 1 to the last one, in order
abbrev pub numbers_lawful : ℕ → ℕ → Bool
numbers_lawful first last = nat_le 1 first && (nat_le first last && nat_le last last_certificate_number)

-- working days in order
abbrev pub days_lawful : ℕ → ℕ → Bool
days_lawful first last = nat_le first last && nat_le last last_working_day

abbrev pub energy_lawful : ℕ → Bool
energy_lawful energy = nat_le 1 energy && nat_le energy most_energy

abbrev pub year_lawful : ℕ → Bool
year_lawful year = nat_le first_year year && nat_le year last_year

-- a byte that prints, or a blank
abbrev pub printable : ℕ → Bool
printable byte = nat_le 0x20 byte && nat_le byte 0x7E

abbrev pub all_printable : List ℕ → Bool
all_printable = list_all printable

-- every byte prints, and the first is no blank
abbrev pub beneficiary_lawful : List ℕ → Bool
beneficiary_lawful bytes = not (slice_index bytes 0 == 0x20) && all_printable bytes
