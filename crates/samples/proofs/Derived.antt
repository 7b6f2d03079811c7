-- Each sample, computed from the definitions. Assumes nothing.
use mathlib.Core.Path.{refl}
use Rattle.figures.specs.Gs1.{weighted_sum}
use Rattle.calendar.specs.Dates.{date_of, month_start, day_number, twelve_months_on, last_valid_day}
use Rattle.range_map.specs.Plain.{cut, cuts, cuts_of, change, gap}
use Rattle.samples.specs.Samples.{AllHold, samples}

pub derived : AllHold samples
unfolding weighted_sum date_of month_start day_number twelve_months_on last_valid_day cut cuts cuts_of change gap
derived = (refl, (refl, (refl, (refl, (refl, (refl, (refl, (refl, (refl, (refl, (refl, (refl, tt))))))))))))
