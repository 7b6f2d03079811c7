-- What is reckoned from the booked calls alone, number by number: no entry, cut, slot or table is mentioned.
-- A history is the list of the booked calls, the newest first. Assumes nothing.
use Rattle.std.specs.Prelude.{ℕ, ◌+◌, ◌-◌, ◌/◌, Bool, true, false, cond, ◌&&◌, List, [], ◌∷◌, ◌++◌, Some, None, Option, ◌==◌, nat_le, nat_lt}
use Rattle.std.specs.Option.{option_map}
use Rattle.figures.specs.Limits.{certificate_size}
use Rattle.figures.specs.declared.accounts.Account.{Account}
use Rattle.order_file.specs.declared.orders.Declare.{Declare}
use Rattle.range_map.specs.Counts.{passes, how_many, sum_below}
use Rattle.range_map.specs.Plain.{within}
use Rattle.register.specs.Bookings.{offer_of, in_state, cancellation_of}
use Rattle.register.specs.Holdings.{held_by, is_held, offered_under}
use Rattle.register.specs.State.{is_account, is_device, account_from, range_size}
use Rattle.register.specs.Terms.{lapsed}
use Rattle.register.specs.declared.calls.Call.{Call}
use Rattle.register.specs.declared.calls.Call.TheVariants as call
use Rattle.register.specs.declared.rows.Cancellation.{Cancellation}
use Rattle.register.specs.declared.rows.Offer.{Offer}
use Rattle.register.specs.declared.rows.OfferState.{OfferState}
use Rattle.register.specs.declared.rows.OfferState.TheVariants.{Open, Accepted, Recalled}
use Rattle.register.specs.declared.rows.Origin.{Origin}
use Rattle.register.specs.declared.rows.Standing.{Standing}
use Rattle.register.specs.declared.rows.Standing.TheVariants.{Held, Offered, Cancelled, Expired}
use Rattle.reckoning.specs.Kinds.{if_account, if_device, if_declaration, if_offer, if_acceptance, if_recall, if_cancellation, if_day_opening}

abbrev pub History : Type 0
History = List Call

-- the date: that of the newest day opening, or 0
unfoldable pub today : History → ℕ
today [] = 0
today (c ∷ h) = if_day_opening c (λ o. o.date) (today h)

-- the accounts opened and the devices registered, the oldest first
unfoldable pub accounts_opened : History → List Account
accounts_opened [] = []
accounts_opened (c ∷ h) = if_account c (λ o. accounts_opened h ++ (account_from o.account ∷ [])) (accounts_opened h)

unfoldable pub devices_registered : History → List ℕ
devices_registered [] = []
devices_registered (c ∷ h) = if_device c (λ o. devices_registered h ++ (o.device ∷ [])) (devices_registered h)

-- a device's declared watt-hours: the energy of its declarations
unfoldable pub declared : History → ℕ → ℕ
declared [] d = 0
declared (c ∷ h) d = if_declaration c (λ o. declared h d + cond (is_device d o.device) o.energy 0) (declared h d)

-- a device's certificates: one for each full 1,000,000 declared watt-hours
abbrev pub due_to : History → ℕ → ℕ
due_to h d = declared h d / certificate_size

-- how many numbers a declaration issues: until its device has all that are due to it
abbrev pub issued_by : History → Declare → ℕ
issued_by h o = (declared h o.device + o.energy) / certificate_size - due_to h o.device

-- the last number issued; the next numbers follow it
unfoldable pub issued : History → ℕ
issued [] = 0
issued (c ∷ h) = if_declaration c (λ o. issued h + issued_by h o) (issued h)

-- n is one of the numbers that this declaration issues
abbrev pub is_next : History → Declare → ℕ → Bool
is_next h o n = nat_lt (issued h) n && nat_le n (issued h + issued_by h o)

abbrev pub origin_of : Declare → Origin
origin_of o = record { device = o.device; first_day = o.first_day; last_day = o.last_day }

-- a number's device and production days
unfoldable pub origin : History → ℕ → Option Origin
origin [] n = None
origin (c ∷ h) n = if_declaration c (λ o. cond (is_next h o n) (Some (origin_of o)) (origin h n)) (origin h n)

-- the offers made, numbered from 1: parties, range, and whether still open, accepted or recalled
unfoldable pub offers_made : History → ℕ
offers_made [] = 0
offers_made (c ∷ h) = if_offer c (λ _. offers_made h + 1) (offers_made h)

abbrev pub closes : OfferState → ℕ → ℕ → Option Offer → Option Offer
closes state j k offer = cond (j == k) (option_map (in_state state) offer) offer

unfoldable pub offer : History → ℕ → Option Offer
offer [] k = None
offer (c ∷ h) k =
    if_offer c (λ o. cond (k == offers_made h + 1) (Some (offer_of o)) (offer h k))
    (if_acceptance c (λ o. closes Accepted o.offer k (offer h k)) (if_recall c (λ o. closes Recalled o.offer k (offer h k)) (offer h k)))

-- the cancellations, by serial from 1
unfoldable pub cancellations_made : History → ℕ
cancellations_made [] = 0
cancellations_made (c ∷ h) = if_cancellation c (λ _. cancellations_made h + 1) (cancellations_made h)

unfoldable pub cancellation : History → ℕ → Option Cancellation
cancellation [] k = None
cancellation (c ∷ h) k =
    if_cancellation c (λ o. cond (k == cancellations_made h + 1) (Some (cancellation_of (today h) o)) (cancellation h k)) (cancellation h k)

-- held by that party of the offer
abbrev pub held_by_party : (Offer → Account) → Option Offer → Option Standing
held_by_party party None = None
held_by_party party (Some f) = Some (Held (party f))

-- a number's status after a call: none before it is issued, then held by an account, offered under an offer's number,
-- cancelled under a serial, or expired
abbrev pub status_after : Call → History → ℕ → Option Standing → Option Standing
status_after (call.Account o) h n old = old
status_after (call.Device o) h n old = old
status_after (call.Declaration o) h n old = cond (is_next h o n) (Some (Held (account_from o.account))) old
status_after (call.Offer o) h n old = cond (within o.first o.last n) (Some (Offered (offers_made h + 1))) old
status_after (call.Acceptance o) h n old = cond (passes (offered_under o.offer) old) (held_by_party (λ f. f.to) (offer h o.offer)) old
status_after (call.Recall o) h n old =
    cond (passes (offered_under o.offer) old) (cond (lapsed (today h) (origin h n)) (Some Expired) (held_by_party (λ f. f.from) (offer h o.offer))) old
status_after (call.Cancellation o) h n old = cond (within o.first o.last n) (Some (Cancelled (cancellations_made h + 1))) old
status_after (call.DayOpening o) h n old = cond (passes is_held old && lapsed o.date (origin h n)) (Some Expired) old
status_after call.DayClosing h n old = old

unfoldable pub status : History → ℕ → Option Standing
status [] n = None
status (c ∷ h) n = status_after c h n (status h n)

-- how many numbers an account holds
unfoldable pub held_count : History → Account → ℕ
held_count h a = how_many (λ n. passes (held_by a) (status h n)) (issued h + 1)

abbrev pub is_open : OfferState → Bool
is_open Open = true
is_open Accepted = false
is_open Recalled = false

-- an open offer names the number
abbrev pub open_names : Option Offer → ℕ → Bool
open_names None n = false
open_names (Some f) n = is_open f.state && within f.first.0 f.last.0 n

abbrev pub cancel_names : Option Cancellation → ℕ → Bool
cancel_names None n = false
cancel_names (Some x) n = within x.first.0 x.last.0 n

-- how many numbers an offer names, if it is open and that account made it
abbrev pub open_size : Account → Option Offer → ℕ
open_size a None = 0
open_size a (Some f) = cond (is_open f.state && is_account a f.from) (range_size f.first.0 f.last.0) 0

-- how many numbers the open offers name that an account made
unfoldable pub offered_count : History → Account → ℕ
offered_count h a = sum_below (λ j. open_size a (offer h (j + 1))) (offers_made h)

-- whether the day is open
unfoldable pub day_open : History → Bool
day_open [] = false
day_open (call.Account o ∷ h) = day_open h
day_open (call.Device o ∷ h) = day_open h
day_open (call.Declaration o ∷ h) = day_open h
day_open (call.Offer o ∷ h) = day_open h
day_open (call.Acceptance o ∷ h) = day_open h
day_open (call.Recall o ∷ h) = day_open h
day_open (call.Cancellation o ∷ h) = day_open h
day_open (call.DayOpening o ∷ h) = true
day_open (call.DayClosing ∷ h) = false
