-- The number of every refusal of the register. Assumes nothing.
use Rattle.std.specs.Prelude.{ℕ, Bool, true, false, List, [], ◌∷◌, Some, None, Ok, Err, Option, Result}
use Rattle.order_file.specs.Faults.{operand_number}
use Rattle.books.specs.Faults as book
use Rattle.range_map.specs.Replies as range
use Rattle.register.specs.declared.faults.Fault.{Fault}
use Rattle.register.specs.declared.faults.Fault.TheVariants.{Operand, Book, Map, DateNotLater, NotYetProduced, PastTerm, NumbersExhausted, Full, NotHeld, OfferedToItself, NoSuchOffer, OfferClosed, WrongParty}

abbrev pub number_of : Fault → ℕ
number_of (Operand fault) = operand_number fault
number_of (Book fault) = book.number_of fault
number_of (Map fault) = range.number_of fault
number_of (DateNotLater date) = 7
number_of (NotYetProduced day) = 8
number_of (PastTerm day number) = 9
number_of (NumbersExhausted wanted) = 11
number_of (Full table) = 12
number_of (NotHeld number) = 13
number_of (OfferedToItself account) = 14
number_of (NoSuchOffer offer) = 15
number_of (OfferClosed state) = 16
number_of (WrongParty account) = 17

-- the fault of an answer, if it is one
abbrev pub fault_in : {X : Type 0} → Result X Fault → Option Fault
fault_in (Ok x) = None
fault_in (Err fault) = Some fault

-- a test that must hold, or else the fault
abbrev pub unless : Bool → Fault → Option Fault
unless true fault = None
unless false fault = Some fault

-- the first check that fails decides
abbrev pub first_fault : List (Option Fault) → Option Fault
first_fault [] = None
first_fault (None ∷ checks) = first_fault checks
first_fault (Some fault ∷ checks) = Some fault
