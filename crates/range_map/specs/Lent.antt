-- Slots that the caller lends: the entries in use, and what a map keeps of them.
use Rattle.std.specs.Prelude.{ℕ, ◌-◌, ◌≤◌, List, ◌++◌, length, map, take, drop}
use Rattle.range_map.specs.declared.entry.Entry.{Entry}
use Rattle.range_map.specs.declared.lent.Lent.{Lent}
use Rattle.range_map.specs.Plain.{Rising, remade}

abbrev pub entries_in : {P : Type 0} → Lent P → List (Entry P)
entries_in s = take s.used s.slots.now

abbrev pub slots_in : {P : Type 0} → Lent P → ℕ
slots_in s = length s.slots.now

pub record LentSound {P : Type 0} (s : Lent P) : Type 0 where
  pub fits : s.used ≤ slots_in s
  pub rising : Rising (entries_in s)

-- the payload for the entries from low on, up to high
abbrev pub paid_within : {P : Type 0} → ℕ → ℕ → P → List (Entry P) → List (Entry P)
paid_within low high p m = take low m ++ (map (remade (λ _. p)) (take (high - low) (drop low m)) ++ drop high m)
