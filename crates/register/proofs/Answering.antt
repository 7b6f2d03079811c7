-- How an answer to an offer settles. Assumes nothing.
use Rattle.std.proofs.Common.{◌≡◌, ℕ, ◌-◌, true, List, set, Some, None, Ok, Err, Option, sym, ap, ◌∙◌}
use Rattle.figures.specs.declared.accounts.Account.{Account}
use Rattle.books.specs.Ledger.{Ledger}
use Rattle.range_map.specs.Map.{nth}
use Rattle.register.specs.Answers.{answered_by, offer_at, state_after}
use Rattle.register.specs.Bookings.{in_state, of_offer}
use Rattle.register.specs.Faults.{first_fault}
use Rattle.register.specs.Runs.{settled}
use Rattle.register.specs.Settled.{Settles, answer_of, map_of, state_of}
use Rattle.register.specs.State.{MapOf, State}
use Rattle.register.specs.declared.answers.OfferCall.{OfferCall}
use Rattle.register.specs.declared.day.DayFigures.{DayFigures}
use Rattle.register.specs.declared.faults.Fault.{Fault}
use Rattle.register.specs.declared.rows.Offer.{Offer}
use Rattle.register.specs.declared.rows.OfferState.TheVariants.{Open}
use Rattle.register.specs.declared.rows.Standing.{Standing}
use Rattle.register.specs.declared.tables.Tables.{Tables}
use Rattle.register.proofs.OfferRows.{offer_row}

module _ {X : Type 0} (checks : State → List (Option Fault)) (value : State → X) (book : State → State) (before : State) where
  pub settles_refused : (f : Fault) → Some f ≡ first_fault (checks before) → Settles checks value book before (Err f) before
  settles_refused f one = record { answer = ap (λ o. answer_of o (value before)) one; state = ap (λ o. settled o (book before) before) one }

  pub settles_booked : (after : State) → None ≡ first_fault (checks before) → after ≡ book before → Settles checks value book before (Ok (value before)) after
  settles_booked after none booked = record { answer = ap (λ o. answer_of o (value before)) none; state = booked ∙ ap (λ o. settled o (book before) before) none }

-- the register with other accounts, standings and offers
abbrev pub answered : State → Ledger Account → MapOf Standing → List Offer → State
answered s accounts standings offers = record { opened = s.opened; date = s.date; last = s.last; offered = s.offered; cancelled = s.cancelled; accounts = accounts; devices = s.devices; periods = s.periods; origins = s.origins; standings = standings; offers = offers; cancellations = s.cancellations }

module _ (call : OfferCall) (k : ℕ) (f : Offer) (day : DayFigures) (accounts accounts' posted : Ledger Account) (devices devices' : Ledger ℕ) (tables tables' : Tables) (standings : MapOf Standing) where
  abbrev rows : List Offer
  rows = tables.offers.now

  module _
      (found : offer_at k day.offers rows ≡ Some f)
      (unanswered : f.state ≡ Open)
      (totals : accounts' ≡ posted)
      (stands : map_of tables'.standings ≡ standings)
      (row : (o : Offer) → nth (k - 1) rows ≡ Some o → tables'.offers.now ≡ set rows (k - 1) (answered_by call o))
      (same_devices : devices' ≡ devices)
      (same_periods : tables'.periods ≡ tables.periods)
      (same_origins : tables'.origins ≡ tables.origins)
      (same_cancellations : tables'.cancellations ≡ tables.cancellations)
    where
      offers_after : tables'.offers.now ≡ set rows (k - 1) (in_state (state_after Open call) f)
      offers_after =
          row f (offer_row k day.offers rows f found).row
          ∙ ap (λ state. set rows (k - 1) (in_state (state_after state call) f)) unanswered

      -- what is booked of the offer that there is
      pub answer_booked : (book : Offer → State → State) → book f (state_of true day accounts devices tables) ≡ answered (state_of true day accounts devices tables) posted standings (set rows (k - 1) (in_state (state_after Open call) f)) → state_of true day accounts' devices' tables' ≡ of_offer book (offer_at k day.offers rows) (state_of true day accounts devices tables)
      answer_booked book booked =
          (λ i. record { opened = true; date = day.date; last = day.last_number.0; offered = day.offers; cancelled = day.cancellations; accounts = totals i; devices = same_devices i; periods = map_of (same_periods i); origins = map_of (same_origins i); standings = stands i; offers = offers_after i; cancellations = (same_cancellations i).now })
          ∙ sym booked
          ∙ ap (λ o. of_offer book o (state_of true day accounts devices tables)) (sym found)
