-- What each call books: the register afterwards. Assumes nothing.
use Rattle.std.specs.Prelude.{ℕ, ◌+◌, ◌-◌, true, false, cond, List, map, Some, None, Option, nat_lt, slice_set}
use Rattle.books.specs.Changes.{posted}
use Rattle.books.specs.Ledger.{enrolled, written_in}
use Rattle.books.specs.declared.changes.Change.TheVariants.{Up, Down}
use Rattle.order_file.specs.declared.orders.AcceptOffer.{AcceptOffer}
use Rattle.order_file.specs.declared.orders.Cancel.{Cancel}
use Rattle.order_file.specs.declared.orders.Declare.{Declare}
use Rattle.order_file.specs.declared.orders.MakeOffer.{MakeOffer}
use Rattle.order_file.specs.declared.orders.NewDay.{NewDay}
use Rattle.order_file.specs.declared.orders.OpenAccount.{OpenAccount}
use Rattle.order_file.specs.declared.orders.RecallOffer.{RecallOffer}
use Rattle.order_file.specs.declared.orders.RegisterDevice.{RegisterDevice}
use Rattle.range_map.specs.Placed.{laid, changed}
use Rattle.range_map.specs.Plain.{remade}
use Rattle.range_map.specs.declared.entry.Entry.{Entry}
use Rattle.register.specs.Checks.{device_totals, wanted, left, first_issued, last_issued, period_at, offer_numbered}
use Rattle.register.specs.Holdings.{counted, under_offer, accepted, recalled, given_back, expired, lowered_all}
use Rattle.register.specs.State.{MapOf, State, is_account, is_device, account_from, range_size}
use Rattle.register.specs.declared.rows.Cancellation.{Cancellation}
use Rattle.register.specs.declared.rows.Offer.{Offer}
use Rattle.register.specs.declared.rows.OfferState.{OfferState}
use Rattle.register.specs.declared.rows.OfferState.TheVariants.{Open, Accepted, Recalled}
use Rattle.register.specs.declared.rows.Standing.TheVariants.{Held, Offered, Cancelled}

abbrev pub entry : {P : Type 0} → ℕ → ℕ → P → Entry P
entry f l p = record { first = f; last = l; payload = p }

-- a map with other entries in the same slots
abbrev pub holding : {P : Type 0} → MapOf P → List (Entry P) → MapOf P
holding m entries = record { slots = m.slots; entries = entries }

abbrev pub lay_into : {P : Type 0} → Entry P → MapOf P → MapOf P
lay_into x m = holding m (laid x m.entries)

abbrev pub change_in : {P : Type 0} → ℕ → ℕ → P → MapOf P → MapOf P
change_in f l p m = holding m (changed f l p m.entries)

abbrev pub remake_in : {P : Type 0} → (Entry P → P) → MapOf P → MapOf P
remake_in g m = holding m (map (remade g) m.entries)

abbrev pub opening : OpenAccount → State → State
opening o s = record { opened = s.opened; date = s.date; last = s.last; offered = s.offered; cancelled = s.cancelled; accounts = enrolled (account_from o.account) s.accounts; devices = s.devices; periods = s.periods; origins = s.origins; standings = s.standings; offers = s.offers; cancellations = s.cancellations }

abbrev pub registration : RegisterDevice → State → State
registration o s = record { opened = s.opened; date = s.date; last = s.last; offered = s.offered; cancelled = s.cancelled; accounts = s.accounts; devices = enrolled o.device s.devices; periods = s.periods; origins = s.origins; standings = s.standings; offers = s.offers; cancellations = s.cancellations }

-- The period is laid down, and the device's totals are what the division gave.
-- If certificates result, the next numbers get their origin and are held by the account.
abbrev pub if_any : {X : Type 0} → Declare → State → X → X → X
if_any o s booked as_found = cond (nat_lt 0 (wanted o s)) booked as_found

abbrev pub declaration : Declare → State → State
declaration o s = record { opened = s.opened; date = s.date; last = if_any o s (last_issued o s) s.last; offered = s.offered; cancelled = s.cancelled; accounts = if_any o s (posted (is_account (account_from o.account)) (Up (wanted o s)) (Up 0) s.accounts) s.accounts; devices = written_in (is_device o.device) (left o s) ((device_totals o.device s).1 + wanted o s) s.devices; periods = lay_into (entry (period_at o.device s o.first_day) (period_at o.device s o.last_day) (record { energy = record { 0 = o.energy } })) s.periods; origins = if_any o s (lay_into (entry (first_issued s) (last_issued o s) (record { device = o.device; first_day = o.first_day; last_day = o.last_day })) s.origins) s.origins; standings = if_any o s (lay_into (entry (first_issued s) (last_issued o s) (Held (account_from o.account))) s.standings) s.standings; offers = s.offers; cancellations = s.cancellations }

-- the record of an offer
abbrev pub offer_of : MakeOffer → Offer
offer_of o = record { from = account_from o.from; to = account_from o.to; first = record { 0 = o.first }; last = record { 0 = o.last }; state = Open }

-- The numbers are offered under the next offer number.
abbrev pub offering : MakeOffer → State → State
offering o s = record { opened = s.opened; date = s.date; last = s.last; offered = s.offered + 1; cancelled = s.cancelled; accounts = posted (is_account (account_from o.from)) (Down (range_size o.first o.last)) (Up (range_size o.first o.last)) s.accounts; devices = s.devices; periods = s.periods; origins = s.origins; standings = change_in o.first o.last (Offered (s.offered + 1)) s.standings; offers = slice_set s.offers s.offered (offer_of o); cancellations = s.cancellations }

abbrev pub in_state : OfferState → Offer → Offer
in_state state f = record { from = f.from; to = f.to; first = f.first; last = f.last; state = state }

-- Every entry under the offer is held by the receiver.
abbrev pub acceptance_of : ℕ → Offer → State → State
acceptance_of k f s = record { opened = s.opened; date = s.date; last = s.last; offered = s.offered; cancelled = s.cancelled; accounts = posted (is_account f.to) (Up (counted (under_offer k) s.standings.entries)) (Up 0) (posted (is_account f.from) (Up 0) (Down (counted (under_offer k) s.standings.entries)) s.accounts); devices = s.devices; periods = s.periods; origins = s.origins; standings = remake_in (accepted k f.to) s.standings; offers = slice_set s.offers (k - 1) (in_state Accepted f); cancellations = s.cancellations }

-- Every entry under the offer goes back to the sender, or expires.
abbrev pub recall_of : ℕ → Offer → State → State
recall_of k f s = record { opened = s.opened; date = s.date; last = s.last; offered = s.offered; cancelled = s.cancelled; accounts = posted (is_account f.from) (Up (counted (given_back k s.date s.origins.entries) s.standings.entries)) (Down (counted (under_offer k) s.standings.entries)) s.accounts; devices = s.devices; periods = s.periods; origins = s.origins; standings = remake_in (recalled k f.from s.date s.origins.entries) s.standings; offers = slice_set s.offers (k - 1) (in_state Recalled f); cancellations = s.cancellations }

-- of the offer of that number, where there is one
abbrev pub of_offer : (Offer → State → State) → Option Offer → State → State
of_offer book None s = s
of_offer book (Some f) s = book f s

abbrev pub acceptance : AcceptOffer → State → State
acceptance o s = of_offer (acceptance_of o.offer) (offer_numbered o.offer s) s

abbrev pub recall : RecallOffer → State → State
recall o s = of_offer (recall_of o.offer) (offer_numbered o.offer s) s

-- the record of a cancellation
abbrev pub cancellation_of : ℕ → Cancel → Cancellation
cancellation_of date o = record { account = account_from o.account; first = record { 0 = o.first }; last = record { 0 = o.last }; year = o.year; date = date; beneficiary = o.beneficiary }

-- The numbers are cancelled under the next serial.
abbrev pub cancellation : Cancel → State → State
cancellation o s = record { opened = s.opened; date = s.date; last = s.last; offered = s.offered; cancelled = s.cancelled + 1; accounts = posted (is_account (account_from o.account)) (Down (range_size o.first o.last)) (Up 0) s.accounts; devices = s.devices; periods = s.periods; origins = s.origins; standings = change_in o.first o.last (Cancelled (s.cancelled + 1)) s.standings; offers = s.offers; cancellations = slice_set s.cancellations s.cancelled (cancellation_of s.date o) }

-- The date is set; held entries past their term expire, and their holders' totals fall.
abbrev pub day_opening : NewDay → State → State
day_opening o s = record { opened = true; date = o.date; last = s.last; offered = s.offered; cancelled = s.cancelled; accounts = lowered_all o.date s.origins.entries s.standings.entries s.accounts; devices = s.devices; periods = s.periods; origins = s.origins; standings = remake_in (expired o.date s.origins.entries) s.standings; offers = s.offers; cancellations = s.cancellations }

abbrev pub day_closing : State → State
day_closing s = record { opened = false; date = s.date; last = s.last; offered = s.offered; cancelled = s.cancelled; accounts = s.accounts; devices = s.devices; periods = s.periods; origins = s.origins; standings = s.standings; offers = s.offers; cancellations = s.cancellations }
