-- How the opening of a day settles, and what the answers to an offer come to. Assumes nothing.
use Rattle.std.specs.Prelude.{◌≡◌, ℕ, ◌-◌, min, Bool, cond, ◌&&◌, List, [], ◌∷◌, Some, None, Option, nat_le}
use Rattle.std.specs.Option.{option_map}
use Rattle.figures.specs.Limits.{most_total}
use Rattle.figures.specs.declared.accounts.Account.{Account}
use Rattle.figures.specs.declared.names.BookName.TheVariants.{Accounts}
use Rattle.books.specs.Ledger.{Ledger}
use Rattle.order_file.specs.declared.orders.NewDay.{NewDay}
use Rattle.range_map.specs.Counts.{size}
use Rattle.range_map.specs.Map.{nth}
use Rattle.range_map.specs.Placed.{payload_found}
use Rattle.range_map.specs.declared.entry.Entry.{Entry}
use Rattle.register.specs.Bookings.{day_opening, in_state}
use Rattle.register.specs.Checks.{day_opening_checks, in_book, offer_known, by_party, offer_open}
use Rattle.register.specs.Faults.{first_fault}
use Rattle.register.specs.Holdings.{entry_lapsed, lowered, under_offer}
use Rattle.register.specs.State.{State, room}
use Rattle.register.specs.Terms.{overdue}
use Rattle.register.specs.declared.answers.OfferCall.{OfferCall}
use Rattle.register.specs.declared.answers.OfferCall.TheVariants.{Accept, Recall}
use Rattle.register.specs.declared.day.DayFigures.{DayFigures}
use Rattle.register.specs.declared.faults.Fault.{Fault}
use Rattle.register.specs.declared.faults.Fault.TheVariants.{PastTerm}
use Rattle.register.specs.declared.rows.Offer.{Offer}
use Rattle.register.specs.declared.rows.OfferState.{OfferState}
use Rattle.register.specs.declared.rows.OfferState.TheVariants.{Open, Accepted, Recalled}
use Rattle.register.specs.declared.rows.Origin.{Origin}
use Rattle.register.specs.declared.rows.Standing.{Standing}

-- every check passed, and the day's opening is booked
pub record Opened (order : NewDay) (before after : State) : Type 0 where
  pub allowed : first_fault (day_opening_checks order before) ≡ None
  pub state : after ≡ day_opening order before

-- the first check that failed is answered, with the closed day as it was
pub record StillClosed (order : NewDay) (before : State) (fault : Fault) (figures returned : DayFigures) : Type 0 where
  pub refused : first_fault (day_opening_checks order before) ≡ Some fault
  pub day : returned ≡ figures

-- what one entry does to its holder's total when a day opens
abbrev pub lowered_for : ℕ → List (Entry Origin) → Entry Standing → Ledger Account → Ledger Account
lowered_for date os e l = cond (entry_lapsed date os e) (lowered e.payload (min (size e) most_total) l) l

-- an offer's state after a call: closed ones stay as they are
abbrev pub state_after : OfferState → OfferCall → OfferState
state_after Open Accept = Accepted
state_after Open Recall = Recalled
state_after Accepted call = Accepted
state_after Recalled call = Recalled

abbrev pub answered_by : OfferCall → Offer → Offer
answered_by call f = in_state (state_after f.state call) f

-- who may make the call: the receiver accepts, the sender recalls
abbrev pub party_of : OfferCall → Offer → Account
party_of Accept f = f.to
party_of Recall f = f.from

-- the offer of that number among those made: not 0, and within its table
abbrev pub offer_at : ℕ → ℕ → List Offer → Option Offer
offer_at k made rows = cond (nat_le 1 k && (nat_le k made && nat_le k (room rows))) (nth (k - 1) rows) None

-- the checks that both calls share, by whether the account is known and which offer there is
abbrev pub answer_checks : OfferCall → Account → ℕ → Bool → Option Offer → List (Option Fault)
answer_checks call a k known f = in_book Accounts known ∷ offer_known k f ∷ by_party a (party_of call) f ∷ offer_open f ∷ []

-- the last valid day of an entry under the offer that is past its term
abbrev pub overdue_under : ℕ → ℕ → List (Entry Origin) → Entry Standing → Option ℕ
overdue_under k date os e = cond (under_offer k e) (overdue date (payload_found e.first os)) None

abbrev pub past_term : Option (ℕ × ℕ) → Option Fault
past_term first = option_map (λ p. PastTerm p.0 p.1) first
