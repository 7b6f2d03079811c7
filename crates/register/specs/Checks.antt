-- The checks of each call, in their order. Assumes nothing.
use Rattle.std.specs.Prelude.{ℕ, ◌+◌, ◌-◌, ◌*◌, ◌/◌, ◌%◌, min, Bool, cond, not, ◌&&◌, List, [], ◌∷◌, length, Some, None, Option, nat_le, nat_lt}
use Rattle.std.specs.Option.{option_map, unwrap_or}
use Rattle.figures.specs.Limits.{certificate_size, last_certificate_number, last_working_day, most_members, most_total}
use Rattle.figures.specs.declared.accounts.Account.{Account}
use Rattle.figures.specs.declared.names.BookName.{BookName}
use Rattle.figures.specs.declared.names.BookName.TheVariants.{Accounts, Devices}
use Rattle.figures.specs.declared.names.Table.{Table}
use Rattle.figures.specs.declared.names.Table.TheVariants.{Periods, Origins, Offers, Cancellations, Standings}
use Rattle.books.specs.Ledger.{running_number, totals, roomy}
use Rattle.books.specs.declared.faults.BookFault.TheVariants.{Present, Absent}
use Rattle.books.specs.declared.faults.BookFault.TheVariants as book
use Rattle.order_file.specs.Checks.{bad_opening, bad_device, bad_declare, bad_offer, bad_accept, bad_recall, bad_cancel}
use Rattle.order_file.specs.declared.orders.AcceptOffer.{AcceptOffer}
use Rattle.order_file.specs.declared.orders.Cancel.{Cancel}
use Rattle.order_file.specs.declared.orders.Declare.{Declare}
use Rattle.order_file.specs.declared.orders.MakeOffer.{MakeOffer}
use Rattle.order_file.specs.declared.orders.NewDay.{NewDay}
use Rattle.order_file.specs.declared.orders.OpenAccount.{OpenAccount}
use Rattle.order_file.specs.declared.orders.RecallOffer.{RecallOffer}
use Rattle.order_file.specs.declared.orders.RegisterDevice.{RegisterDevice}
use Rattle.range_map.specs.Map.{nth}
use Rattle.range_map.specs.Placed.{taken, cuts_in}
use Rattle.range_map.specs.declared.entry.Entry.{Entry}
use Rattle.range_map.specs.declared.fault.MapFault.TheVariants as range
use Rattle.register.specs.Faults.{unless}
use Rattle.register.specs.Holdings.{unheld, first_overdue}
use Rattle.register.specs.State.{MapOf, State, is_account, is_device, account_from, has_account, has_device, room, days_of_device}
use Rattle.register.specs.Terms.{valid_until}
use Rattle.register.specs.declared.faults.Fault.{Fault}
use Rattle.register.specs.declared.faults.Fault.TheVariants.{Operand, Book, Map, DateNotLater, NotYetProduced, PastTerm, NumbersExhausted, Full, NotHeld, OfferedToItself, NoSuchOffer, OfferClosed, WrongParty}
use Rattle.register.specs.declared.rows.Offer.{Offer}
use Rattle.register.specs.declared.rows.Standing.{Standing}
use Rattle.register.specs.declared.rows.OfferState.{OfferState}
use Rattle.register.specs.declared.rows.OfferState.TheVariants.{Open, Accepted, Recalled}

-- an operand outside its rule, by its distance
abbrev pub bad_at : Option ℕ → Option Fault
bad_at distance = option_map (λ d. Operand (record { distance = d })) distance

-- a key that its book has
abbrev pub in_book : BookName → Bool → Option Fault
in_book name known = unless known (Book (Absent name))

abbrev pub account_known : Account → State → Option Fault
account_known a s = in_book Accounts (has_account a s)

abbrev pub device_known : ℕ → State → Option Fault
device_known d s = in_book Devices (has_device d s)

abbrev pub opening_checks : OpenAccount → State → List (Option Fault)
opening_checks o s =
    bad_at (bad_opening o)
    ∷ unless (not (has_account (account_from o.account) s)) (Book (Present Accounts))
    ∷ unless (roomy s.accounts) (Book (book.Full Accounts))
    ∷ []

abbrev pub registration_checks : RegisterDevice → State → List (Option Fault)
registration_checks o s =
    bad_at (bad_device o)
    ∷ unless (not (has_device o.device s)) (Book (Present Devices))
    ∷ unless (roomy s.devices) (Book (book.Full Devices))
    ∷ []

-- What a declaration comes to: its device's remainder and its energy together, divided.
abbrev pub device_totals : ℕ → State → ℕ × ℕ
device_totals d s = unwrap_or (totals (is_device d) s.devices.members) (0, 0)

abbrev pub gathered : Declare → State → ℕ
gathered o s = min (device_totals o.device s).0 most_total + o.energy

abbrev pub wanted : Declare → State → ℕ
wanted o s = gathered o s / certificate_size

abbrev pub left : Declare → State → ℕ
left o s = gathered o s % certificate_size

-- the last number issued, read as at most the limit
abbrev pub issued_so_far : State → ℕ
issued_so_far s = min s.last last_certificate_number

abbrev pub first_issued : State → ℕ
first_issued s = issued_so_far s + 1

abbrev pub last_issued : Declare → State → ℕ
last_issued o s = issued_so_far s + wanted o s

-- where a device's day stands in the table of periods
abbrev pub period_at : ℕ → State → ℕ → ℕ
period_at d s day = min (unwrap_or (running_number (is_device d) s.devices.members) 0) most_members * days_of_device + day

abbrev pub meets : {P : Type 0} → ℕ → ℕ → MapOf P → Option Fault
meets f l m = option_map (λ p. Map (range.Taken p)) (taken f l m.entries)

abbrev pub has_slot : {P : Type 0} → Table → MapOf P → Option Fault
has_slot table m = unless (nat_lt (length m.entries) m.slots) (Map (range.Full table))

-- only if a certificate results
abbrev pub if_issuing : Declare → State → Option Fault → Option Fault
if_issuing o s check = cond (nat_lt 0 (wanted o s)) check None

abbrev pub declaration_checks : Declare → State → List (Option Fault)
declaration_checks o s =
    bad_at (bad_declare o)
    ∷ device_known o.device s
    ∷ account_known (account_from o.account) s
    ∷ unless (nat_lt o.last_day s.date) (NotYetProduced o.last_day)
    ∷ unless (nat_le s.date (valid_until o.last_day)) (PastTerm (valid_until o.last_day) 0)
    ∷ meets (period_at o.device s o.first_day) (period_at o.device s o.last_day) s.periods
    ∷ if_issuing o s (meets (first_issued s) (last_issued o s) s.origins)
    ∷ if_issuing o s (meets (first_issued s) (last_issued o s) s.standings)
    ∷ unless (nat_le (last_issued o s) last_certificate_number) (NumbersExhausted (wanted o s))
    ∷ has_slot Periods s.periods
    ∷ if_issuing o s (has_slot Origins s.origins)
    ∷ if_issuing o s (has_slot Standings s.standings)
    ∷ []

-- a number that is not held
abbrev pub not_held_at : Option ℕ → Option Fault
not_held_at number = option_map NotHeld number

-- the numbers f to l are held by the account
abbrev pub holds : Account → ℕ → ℕ → State → Option Fault
holds a f l s = not_held_at (unheld a f l s.standings.entries)

-- a record of its own, and the cuts, find slots
abbrev pub row_free : Table → ℕ → ℕ → Option Fault
row_free table made slots = unless (nat_lt made (min slots most_members)) (Full table)

abbrev pub has_row : {X : Type 0} → Table → ℕ → List X → Option Fault
has_row table made rows = row_free table made (length rows)

abbrev pub slots_for : ℕ → ℕ → ℕ → List (Entry Standing) → Option Fault
slots_for f l slots m = unless (nat_le (length m + cuts_in f l m) slots) (Map (range.Full Standings))

abbrev pub cuts_fit : ℕ → ℕ → State → Option Fault
cuts_fit f l s = slots_for f l s.standings.slots s.standings.entries

-- nobody offers to itself
abbrev pub to_itself : Account → Account → Option Fault
to_itself a b = unless (not (is_account a b)) (OfferedToItself a)

abbrev pub offer_checks : MakeOffer → State → List (Option Fault)
offer_checks o s =
    bad_at (bad_offer o)
    ∷ to_itself (account_from o.from) (account_from o.to)
    ∷ account_known (account_from o.from) s
    ∷ account_known (account_from o.to) s
    ∷ holds (account_from o.from) o.first o.last s
    ∷ has_row Offers s.offered s.offers
    ∷ cuts_fit o.first o.last s
    ∷ []

-- the offer of that number: not 0, made, and within its table
abbrev pub offer_numbered : ℕ → State → Option Offer
offer_numbered k s = cond (nat_le 1 k && (nat_le k s.offered && nat_le k (room s.offers))) (nth (k - 1) s.offers) None

abbrev pub offer_known : ℕ → Option Offer → Option Fault
offer_known k None = Some (NoSuchOffer k)
offer_known k (Some o) = None

abbrev pub by_party : Account → (Offer → Account) → Option Offer → Option Fault
by_party a party None = None
by_party a party (Some o) = unless (is_account a (party o)) (WrongParty a)

abbrev pub still_open_check : OfferState → Option Fault
still_open_check Open = None
still_open_check Accepted = Some (OfferClosed Accepted)
still_open_check Recalled = Some (OfferClosed Recalled)

abbrev pub offer_open : Option Offer → Option Fault
offer_open None = None
offer_open (Some o) = still_open_check o.state

abbrev pub in_term : ℕ → State → Option Fault
in_term k s = option_map (λ p. PastTerm p.0 p.1) (first_overdue k s.date s.origins.entries s.standings.entries)

abbrev pub acceptance_checks : AcceptOffer → State → List (Option Fault)
acceptance_checks o s =
    bad_at (bad_accept o)
    ∷ account_known (account_from o.account) s
    ∷ offer_known o.offer (offer_numbered o.offer s)
    ∷ by_party (account_from o.account) (λ f. f.to) (offer_numbered o.offer s)
    ∷ offer_open (offer_numbered o.offer s)
    ∷ in_term o.offer s
    ∷ []

abbrev pub recall_checks : RecallOffer → State → List (Option Fault)
recall_checks o s =
    bad_at (bad_recall o)
    ∷ account_known (account_from o.account) s
    ∷ offer_known o.offer (offer_numbered o.offer s)
    ∷ by_party (account_from o.account) (λ f. f.from) (offer_numbered o.offer s)
    ∷ offer_open (offer_numbered o.offer s)
    ∷ []

abbrev pub cancellation_checks : Cancel → State → List (Option Fault)
cancellation_checks o s =
    bad_at (bad_cancel o)
    ∷ account_known (account_from o.account) s
    ∷ holds (account_from o.account) o.first o.last s
    ∷ has_row Cancellations s.cancelled s.cancellations
    ∷ cuts_fit o.first o.last s
    ∷ []

-- a later date, and a working day
abbrev pub day_opening_checks : NewDay → State → List (Option Fault)
day_opening_checks o s = unless (nat_lt s.date o.date && nat_le o.date last_working_day) (DateNotLater o.date) ∷ []
