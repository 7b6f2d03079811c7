-- The worked samples at the edges of the rules. Assumes nothing.
use Rattle.std.specs.Prelude.{◌≡◌, Bool, true, false, List, [], ◌∷◌, ℕ}
use Rattle.figures.specs.Gs1.{gs1}
use Rattle.figures.specs.declared.names.Table.TheVariants.{Standings}
use Rattle.calendar.specs.Dates.{last_valid_day}
use Rattle.range_map.specs.Replies.{plain_change}
use Rattle.range_map.specs.Sample.{added, one_entry, refusal}

pub data Sample : Type 0 where
  -- a certificate's last production day and its last valid day
  valid_until : ℕ → ℕ → Sample
  -- a device number, and whether it passes
  device_passes : ℕ → Bool → Sample
  -- in a map with the one entry 1 to 3: a change of this range adds so many entries
  change_adds : ℕ → ℕ → ℕ → Sample
  -- in that map over so many slots: a change of this range gets this refusal, 0 for none
  change_gets : ℕ → ℕ → ℕ → ℕ → Sample

abbrev pub Holds : Sample → Type 0
Holds (valid_until production last) = last_valid_day production ≡ last
Holds (device_passes number passes) = gs1 number ≡ passes
Holds (change_adds first last entries) = added first last ≡ entries
Holds (change_gets slots first last number) = refusal (plain_change Standings slots first last one_entry) ≡ number

abbrev pub AllHold : List Sample → Type 0
AllHold [] = Unit {0}
AllHold (s ∷ ss) = Holds s × AllHold ss

abbrev pub samples : List Sample
samples =
    valid_until 0 366
    ∷ valid_until 58 424
    ∷ valid_until 59 424
    ∷ valid_until 60 425
    ∷ device_passes 17 true
    ∷ device_passes 109 true
    ∷ device_passes 18 false
    ∷ change_adds 1 1 1
    ∷ change_adds 2 2 2
    ∷ change_adds 1 3 0
    ∷ change_gets 2 2 2 12
    ∷ change_gets 3 2 2 0
    ∷ []
