-- The definitions give what the sample wants, by computing. Assumes nothing.
use Rattle.std.proofs.Common.{refl}
use Rattle.range_map.specs.Plain.{cut, cuts, cuts_of, change, gap}
use Rattle.range_map.specs.Sample.{AllAgree, cut_cases}

pub cut_cases_agree : AllAgree cut_cases
unfolding cut cuts cuts_of change gap
cut_cases_agree = (refl, (refl, (refl, (refl, (refl, tt)))))
