-- A map with the one entry 1 to 3: how many entries a change adds, and when the slots do not suffice.
use Rattle.std.specs.Prelude.{◌≡◌, ℕ, ◌-◌, List, [], ◌∷◌, length, Ok, Err, Result}
use Rattle.figures.specs.declared.names.Table.TheVariants.{Standings}
use Rattle.range_map.specs.declared.entry.Entry.{Entry}
use Rattle.range_map.specs.declared.fault.MapFault.{MapFault}
use Rattle.range_map.specs.Map.{entry_of}
use Rattle.range_map.specs.Plain.{change}
use Rattle.range_map.specs.Replies.{number_of, plain_change}

-- what the definitions give, and what it should be
pub record Case : Type 0 where
  pub given : ℕ
  pub wanted : ℕ

abbrev pub case : ℕ → ℕ → Case
case given wanted = record { given = given; wanted = wanted }

abbrev pub AllAgree : List Case → Type 0
AllAgree [] = Unit {0}
AllAgree (c ∷ cs) = (c.given ≡ c.wanted) × AllAgree cs

abbrev pub one_entry : List (Entry ℕ)
one_entry = entry_of 1 3 7 ∷ []

-- how many entries a change of f to l adds
abbrev pub added : ℕ → ℕ → ℕ
added f l = length (change f l 8 one_entry) - length one_entry

-- the number of a refusal, 0 where there is none
abbrev pub refusal : Result (Unit {0}) MapFault → ℕ
refusal (Ok u) = 0
refusal (Err e) = number_of e

-- changing 1 to 1 adds one entry, 2 to 2 two, 1 to 3 none; with one slot free 2 to 2 gets 12, with two it is not refused
abbrev pub cut_cases : List Case
cut_cases =
    case (added 1 1) 1 ∷ case (added 2 2) 2 ∷ case (added 1 3) 0
    ∷ case (refusal (plain_change Standings 2 2 2 one_entry)) 12 ∷ case (refusal (plain_change Standings 3 2 2 one_entry)) 0 ∷ []
