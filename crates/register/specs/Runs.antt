-- One call after another: the first check that fails refuses a call, and a refused call changes nothing.
-- Assumes nothing.
use Rattle.std.specs.Prelude.{◌≡◌, Bool, true, false, cond, not, ◌&&◌, List, [], ◌∷◌, Some, None, Option}
use Rattle.register.specs.Bookings.{opening, registration, declaration, offering, acceptance, recall, cancellation, day_opening, day_closing}
use Rattle.register.specs.Checks.{opening_checks, registration_checks, declaration_checks, offer_checks, acceptance_checks, recall_checks, cancellation_checks, day_opening_checks}
use Rattle.register.specs.Faults.{first_fault}
use Rattle.register.specs.State.{State}
use Rattle.register.specs.declared.calls.Call.{Call}
use Rattle.register.specs.declared.calls.Call.TheVariants as call
use Rattle.register.specs.declared.faults.Fault.{Fault}

abbrev pub checks_of : Call → State → List (Option Fault)
checks_of (call.Account o) s = opening_checks o s
checks_of (call.Device o) s = registration_checks o s
checks_of (call.Declaration o) s = declaration_checks o s
checks_of (call.Offer o) s = offer_checks o s
checks_of (call.Acceptance o) s = acceptance_checks o s
checks_of (call.Recall o) s = recall_checks o s
checks_of (call.Cancellation o) s = cancellation_checks o s
checks_of (call.DayOpening o) s = day_opening_checks o s
checks_of call.DayClosing s = []

abbrev pub booking_of : Call → State → State
booking_of (call.Account o) s = opening o s
booking_of (call.Device o) s = registration o s
booking_of (call.Declaration o) s = declaration o s
booking_of (call.Offer o) s = offering o s
booking_of (call.Acceptance o) s = acceptance o s
booking_of (call.Recall o) s = recall o s
booking_of (call.Cancellation o) s = cancellation o s
booking_of (call.DayOpening o) s = day_opening o s
booking_of call.DayClosing s = day_closing s

-- a day is opened when it is closed; everything else is done on an open day
abbrev pub in_turn : Call → Bool → Bool
in_turn (call.Account o) opened = opened
in_turn (call.Device o) opened = opened
in_turn (call.Declaration o) opened = opened
in_turn (call.Offer o) opened = opened
in_turn (call.Acceptance o) opened = opened
in_turn (call.Recall o) opened = opened
in_turn (call.Cancellation o) opened = opened
in_turn (call.DayOpening o) opened = not opened
in_turn call.DayClosing opened = opened

abbrev pub fault_of : Call → State → Option Fault
fault_of c s = first_fault (checks_of c s)

-- by the fault, if there is one: what is booked, or all as it was
abbrev pub settled : {X : Type 0} → Option Fault → X → X → X
settled None booked as_found = booked
settled (Some fault) booked as_found = as_found

-- a call out of turn is not made
abbrev pub step : Call → State → State
step c s = cond (in_turn c s.opened) (settled (fault_of c s) (booking_of c s) s) s

abbrev pub is_booked : Call → State → Bool
is_booked c s = in_turn c s.opened && settled (fault_of c s) true false

unfoldable pub run : List Call → State → State
run [] s = s
run (c ∷ cs) s = run cs (step c s)

-- a history is the booked calls, the newest first; this one goes on from h
unfoldable pub history_from : List Call → State → List Call → List Call
history_from [] s h = h
history_from (c ∷ cs) s h = history_from cs (step c s) (cond (is_booked c s) (c ∷ h) h)

-- a new register: a closed day 0, empty books and maps, over any slots
pub record New (s : State) : Type 0 where
  pub closed : s.opened ≡ false
  pub date : s.date ≡ 0
  pub last : s.last ≡ 0
  pub offered : s.offered ≡ 0
  pub cancelled : s.cancelled ≡ 0
  pub no_accounts : s.accounts.members ≡ []
  pub no_devices : s.devices.members ≡ []
  pub no_periods : s.periods.entries ≡ []
  pub no_origins : s.origins.entries ≡ []
  pub no_standings : s.standings.entries ≡ []
