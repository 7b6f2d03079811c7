-- What a declaration comes to, as one value, and the checks that ask it. Assumes nothing.
use Rattle.std.specs.Prelude.{◌≡◌, ℕ, ◌+◌, ◌≤◌, min, Bool, true, false, cond, List, [], ◌∷◌, None, Ok, Option, nat_le, nat_lt}
use Rattle.figures.specs.Limits.{last_certificate_number, most_total}
use Rattle.figures.specs.declared.names.Table.TheVariants.{Periods, Origins, Standings}
use Rattle.books.specs.Ledger.{Ledger}
use Rattle.order_file.specs.Checked.{plain_declaration}
use Rattle.order_file.specs.declared.checked.Declaration.{Declaration}
use Rattle.order_file.specs.declared.orders.Declare.{Declare}
use Rattle.range_map.specs.Map.{in_use, lay_answer, slots_of}
use Rattle.register.specs.Checks.{device_totals, wanted, left, first_issued, last_issued, period_at, meets, has_slot}
use Rattle.register.specs.Faults.{unless}
use Rattle.register.specs.State.{MapOf, State}
use Rattle.register.specs.Terms.{valid_until}
use Rattle.register.specs.declared.faults.Fault.{Fault}
use Rattle.register.specs.declared.faults.Fault.TheVariants.{NotYetProduced, PastTerm, NumbersExhausted}
use Rattle.register.specs.declared.issues.Issue.{Issue}
use Rattle.register.specs.declared.rows.Origin.{Origin}
use Rattle.register.specs.declared.rows.Period.{Period}
use Rattle.register.specs.declared.rows.Standing.{Standing}
use Rattle.register.specs.declared.tables.Tables.{Tables}

abbrev pub issue_of : Declare → State → Issue
issue_of o s = record {
  count = record { 0 = wanted o s };
  left = record { 0 = left o s };
  issued = min ((device_totals o.device s).1 + wanted o s) most_total;
  first = record { 0 = first_issued s };
  last = record { 0 = last_issued o s };
  period = record { first = period_at o.device s o.first_day; last = period_at o.device s o.last_day };
}

-- what a declaration leaves in the tables
abbrev pub period_of : Declare → Period
period_of o = record { energy = record { 0 = o.energy } }

abbrev pub origin_of : Declare → Origin
origin_of o = record { device = o.device; first_day = o.first_day; last_day = o.last_day }

-- a register of which only the last number and the devices are asked
abbrev pub on_devices : ℕ → Ledger ℕ → State
on_devices last devices = record {
  opened = false;
  date = 0;
  last = last;
  offered = 0;
  cancelled = 0;
  accounts = record { capacity = 0; members = [] };
  devices = devices;
  periods = record { slots = 0; entries = [] };
  origins = record { slots = 0; entries = [] };
  standings = record { slots = 0; entries = [] };
  offers = [];
  cancellations = [];
}

-- a check that is asked only where something is to be laid down
abbrev pub if_needed : Bool → Option Fault → Option Fault
if_needed needed check = cond needed check None

abbrev pub issuing : Issue → Bool
issuing i = nat_lt 0 i.count.0

-- the period and the numbers meet no entry, and the numbers stay within their limit
abbrev pub free_checks : Issue → MapOf Period → MapOf Origin → MapOf Standing → List (Option Fault)
free_checks i periods origins standings =
    meets i.period.first i.period.last periods
    ∷ if_needed (issuing i) (meets i.first.0 i.last.0 origins)
    ∷ if_needed (issuing i) (meets i.first.0 i.last.0 standings)
    ∷ unless (nat_le i.last.0 last_certificate_number) (NumbersExhausted i.count.0)
    ∷ []

abbrev pub slot_checks : Issue → MapOf Period → MapOf Origin → MapOf Standing → List (Option Fault)
slot_checks i periods origins standings =
    has_slot Periods periods
    ∷ if_needed (issuing i) (has_slot Origins origins)
    ∷ if_needed (issuing i) (has_slot Standings standings)
    ∷ []

-- what the booking relies on: each entry finds its place
pub record Finds (i : Issue) (tables : Tables) : Type 0 where
  pub few : i.last.0 ≤ last_certificate_number
  pub period : lay_answer Periods (slots_of tables.periods) i.period.first i.period.last (in_use tables.periods) ≡ Ok tt
  pub origin : issuing i ≡ true → lay_answer Origins (slots_of tables.origins) i.first.0 i.last.0 (in_use tables.origins) ≡ Ok tt
  pub standing : issuing i ≡ true → lay_answer Standings (slots_of tables.standings) i.first.0 i.last.0 (in_use tables.standings) ≡ Ok tt

-- the production days lie before today, and what they issue is in its term
abbrev pub day_checks : ℕ → ℕ → List (Option Fault)
day_checks today last =
    unless (nat_lt last today) (NotYetProduced last)
    ∷ unless (nat_le today (valid_until last)) (PastTerm (valid_until last) 0)
    ∷ []

-- what the judge of a declaration hands on
pub record Reckoned (o : Declare) (s : State) (tables : Tables) (declared : Declaration × Issue) : Type 0 where
  pub operands : plain_declaration declared.0 ≡ o
  pub issue : declared.1 ≡ issue_of o s
  pub places : Finds declared.1 tables
