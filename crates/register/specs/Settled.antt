-- What a register means by its parts, and how a call settles. Assumes nothing.
use Rattle.std.specs.Prelude.{◌≡◌, ℕ, ◌+◌, ◌<◌, Bool, List, [], length, IfOk, Some, None, Ok, Err, Option, Result}
use Rattle.figures.specs.declared.accounts.Account.{Account}
use Rattle.figures.specs.declared.energy.CertificateCount.{CertificateCount}
use Rattle.figures.specs.declared.names.Table.TheVariants.{Standings}
use Rattle.books.specs.Ledger.{Ledger}
use Rattle.order_file.specs.declared.orders.Declare.{Declare}
use Rattle.range_map.specs.Map.{change_answer, in_use, slots_of}
use Rattle.range_map.specs.declared.map.RangeMap.{RangeMap}
use Rattle.register.specs.Checks.{wanted}
use Rattle.register.specs.Faults.{fault_in, first_fault}
use Rattle.register.specs.Runs.{settled}
use Rattle.register.specs.State.{MapOf, State}
use Rattle.register.specs.declared.day.DayFigures.{DayFigures}
use Rattle.register.specs.declared.faults.Fault.{Fault}
use Rattle.register.specs.declared.registers.Register.{Register}
use Rattle.register.specs.declared.rows.Standing.{Standing}
use Rattle.register.specs.declared.tables.Tables.{Tables}

abbrev pub map_of : {P : Type 0} → RangeMap P → MapOf P
map_of m = record { slots = slots_of m; entries = in_use m }

-- the register that these parts make up
abbrev pub state_of : Bool → DayFigures → Ledger Account → Ledger ℕ → Tables → State
state_of opened day accounts devices tables = record {
  opened = opened;
  date = day.date;
  last = day.last_number.0;
  offered = day.offers;
  cancelled = day.cancellations;
  accounts = accounts;
  devices = devices;
  periods = map_of tables.periods;
  origins = map_of tables.origins;
  standings = map_of tables.standings;
  offers = tables.offers.now;
  cancellations = tables.cancellations.now;
}

-- the register on a day, by what its books mean
abbrev pub register_on : {A D : Type 0} → (A → Ledger Account) → (D → Ledger ℕ) → Bool → DayFigures → Register A D → State
register_on accounts devices opened day r = state_of opened day (accounts r.accounts) (devices r.devices) r.tables

abbrev pub answer_of : {X : Type 0} → Option Fault → X → Result X Fault
answer_of None value = Ok value
answer_of (Some fault) value = Err fault

-- A call settles: the first check that fails is its answer and all stays as it was; else it answers and is booked.
pub record Settles {X : Type 0} (checks : State → List (Option Fault)) (value : State → X) (book : State → State) (before : State) (r : Result X Fault) (after : State) : Type 0 where
  pub answer : r ≡ answer_of (first_fault (checks before)) (value before)
  pub state : after ≡ settled (first_fault (checks before)) (book before) before

-- What a call's checks come to before anything changes: the first that fails, or what the booking may rely on.
pub record Judged {X : Type 0} (checks : List (Option Fault)) (Ready : X → Type 0) (r : Result X Fault) : Type 0 where
  pub verdict : fault_in r ≡ first_fault checks
  pub ready : IfOk r Ready

-- for calls whose checks ask no device
abbrev pub ledger_without_devices : Ledger ℕ
ledger_without_devices = record { capacity = 0; members = [] }

-- an offer or a cancellation of these numbers finds a slot for its record and for its cuts
pub record Fits (used slots : ℕ) (first last : ℕ) (standings : RangeMap Standing) : Type 0 where
  pub free_row : used < slots
  pub few : used < 99_999_999
  pub change_fits : change_answer Standings (slots_of standings) first last (in_use standings) ≡ Ok tt

-- what the calls answer
abbrev pub next_account : State → ℕ
next_account s = length s.accounts.members + 1

abbrev pub next_device : State → ℕ
next_device s = length s.devices.members + 1

abbrev pub next_offer : State → ℕ
next_offer s = s.offered + 1

abbrev pub next_serial : State → ℕ
next_serial s = s.cancelled + 1

abbrev pub issued_count : Declare → State → CertificateCount
issued_count o s = record { 0 = wanted o s }
