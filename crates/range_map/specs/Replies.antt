-- Refusals by number and with what they return, and which reply a call gives.
use Rattle.std.specs.Prelude.{ℕ, ◌+◌, Bool, cond, List, length, Some, None, Ok, Err, Option, Result, nat_le, nat_lt}
use Rattle.figures.specs.declared.names.Table.{Table}
use Rattle.range_map.specs.declared.entry.Entry.{Entry}
use Rattle.range_map.specs.declared.fault.MapFault.{MapFault}
use Rattle.range_map.specs.declared.fault.MapFault.TheVariants.{BadRange, Taken, Full, Uncovered}
use Rattle.range_map.specs.declared.fault.Returned.{Returned}
use Rattle.range_map.specs.declared.fault.Returned.TheVariants.{Position, InTable}
use Rattle.range_map.specs.Plain.{bad, hit, gap, cuts_of}

abbrev pub number_of : MapFault → ℕ
number_of BadRange = 3
number_of (Taken n) = 10
number_of (Full t) = 12
number_of (Uncovered n) = 13

-- a bad range returns 0
abbrev pub returned_of : MapFault → Returned
returned_of BadRange = Position 0
returned_of (Taken n) = Position n
returned_of (Full t) = InTable t
returned_of (Uncovered n) = Position n

-- the fault at the position that was met, or else the reply
abbrev pub unless : Option ℕ → (ℕ → MapFault) → Result (Unit {0}) MapFault → Result (Unit {0}) MapFault
unless None fault r = r
unless (Some n) fault r = Err (fault n)

-- by whether the range is bad, the first taken position, and whether every slot is used
abbrev pub lay_reply : Table → Bool → Option ℕ → Bool → Result (Unit {0}) MapFault
lay_reply t is_bad first is_full = cond is_bad (Err BadRange) (unless first Taken (cond is_full (Err (Full t)) (Ok tt)))

-- by whether the range is bad, the first position that no entry covers, and whether the cuts want more slots than there are
abbrev pub change_reply : Table → Bool → Option ℕ → Bool → Result (Unit {0}) MapFault
change_reply t is_bad first is_full = cond is_bad (Err BadRange) (unless first Uncovered (cond is_full (Err (Full t)) (Ok tt)))

-- what lay of f to l replies at a rising map m of so many slots, for the table t
abbrev pub plain_lay : {P : Type 0} → Table → ℕ → ℕ → ℕ → List (Entry P) → Result (Unit {0}) MapFault
plain_lay t slots f l m = lay_reply t (bad f l) (hit f l m) (nat_le slots (length m))

-- what change replies there: full exactly if entries in use and cuts exceed the slots
abbrev pub plain_change : {P : Type 0} → Table → ℕ → ℕ → ℕ → List (Entry P) → Result (Unit {0}) MapFault
plain_change t slots f l m = change_reply t (bad f l) (gap f l m) (nat_lt slots (length m + cuts_of f l m))
