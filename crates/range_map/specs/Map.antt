-- What a map holds: its slots, and the entries in use.
-- And what its calls answer, on any entries.
use Rattle.std.specs.Prelude.{ℕ, zero, suc, ◌+◌, List, [], ◌∷◌, length, Some, None, Option, Result, nat_le, nat_lt}
use Rattle.figures.specs.declared.names.Table.{Table}
use Rattle.range_map.specs.declared.entry.Entry.{Entry}
use Rattle.range_map.specs.declared.fault.MapFault.{MapFault}
use Rattle.range_map.specs.declared.map.RangeMap.{RangeMap}
use Rattle.range_map.specs.Lent.{entries_in, slots_in}
use Rattle.range_map.specs.Plain.{bad}
use Rattle.range_map.specs.Placed.{taken, uncovered, cuts_in}
use Rattle.range_map.specs.Replies.{lay_reply, change_reply}

abbrev pub in_use : {P : Type 0} → RangeMap P → List (Entry P)
in_use s = entries_in s.inner

abbrev pub slots_of : {P : Type 0} → RangeMap P → ℕ
slots_of s = slots_in s.inner

-- the entry of the range f to l with the payload p
abbrev pub entry_of : {P : Type 0} → ℕ → ℕ → P → Entry P
entry_of f l p = record { first = f; last = l; payload = p }

-- the entry at index i, from 0
abbrev pub nth : {X : Type 0} → ℕ → List X → Option X
nth i [] = None
nth zero (x ∷ xs) = Some x
nth (suc i) (x ∷ xs) = nth i xs

-- the entry at index i with the payload p; past the end nothing changes
abbrev pub repaid_at : {P : Type 0} → ℕ → P → List (Entry P) → List (Entry P)
repaid_at i p [] = []
repaid_at zero p (e ∷ m) = record { first = e.first; last = e.last; payload = p } ∷ m
repaid_at (suc i) p (e ∷ m) = e ∷ repaid_at i p m

-- what lay of f to l answers, in a map of so many slots for the table t
abbrev pub lay_answer : {P : Type 0} → Table → ℕ → ℕ → ℕ → List (Entry P) → Result (Unit {0}) MapFault
lay_answer t slots f l m = lay_reply t (bad f l) (taken f l m) (nat_le slots (length m))

-- what change answers: full exactly if entries in use and cuts exceed the slots
abbrev pub change_answer : {P : Type 0} → Table → ℕ → ℕ → ℕ → List (Entry P) → Result (Unit {0}) MapFault
change_answer t slots f l m = change_reply t (bad f l) (uncovered f l m) (nat_lt slots (length m + cuts_in f l m))
