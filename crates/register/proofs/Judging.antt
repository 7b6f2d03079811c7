-- The checks of an answer to an offer, one after the other. Assumes nothing.
use Rattle.std.proofs.Common.{◌≡◌, ℕ, true, List, [], ◌∷◌, ◌++◌, Some, None, Option, sym, refl, ap, ◌∙◌, subst}
use Rattle.figures.specs.declared.accounts.Account.{Account}
use Rattle.books.specs.Ledger.{Ledger, present}
use Rattle.order_file.specs.Checked.{plain_accept, plain_recall}
use Rattle.order_file.specs.Checks.{bad_accept, bad_recall}
use Rattle.order_file.specs.declared.checked.OfferAnswer.{OfferAnswer}
use Rattle.order_file.specs.declared.orders.AcceptOffer.{AcceptOffer}
use Rattle.order_file.specs.declared.orders.RecallOffer.{RecallOffer}
use Rattle.register.specs.Answers.{answer_checks, offer_at}
use Rattle.register.specs.Checks.{bad_at, in_term, acceptance_checks, recall_checks}
use Rattle.register.specs.Faults.{first_fault}
use Rattle.register.specs.Settled.{state_of}
use Rattle.register.specs.State.{State, is_account}
use Rattle.register.specs.declared.answers.OfferCall.{OfferCall}
use Rattle.register.specs.declared.answers.OfferCall.TheVariants.{Accept, Recall}
use Rattle.register.specs.declared.day.DayFigures.{DayFigures}
use Rattle.register.specs.declared.faults.Fault.{Fault}
use Rattle.register.specs.declared.tables.Tables.{Tables}
use Rattle.register.proofs.Verdicts.{none_before, one_before}

last_one : (x : Option Fault) → first_fault (x ∷ []) ≡ x
last_one None = refl
last_one (Some f) = refl

module _ (day : DayFigures) (accounts : Ledger Account) (devices : Ledger ℕ) (tables : Tables) (t : OfferAnswer) where
  abbrev state : State
  state = state_of true day accounts devices tables

  abbrev shared : OfferCall → List (Option Fault)
  shared call = answer_checks call t.account t.offer (present (is_account t.account) accounts.members) (offer_at t.offer day.offers tables.offers.now)

  abbrev term : List (Option Fault)
  term = in_term t.offer state ∷ []

  accepted_by : (o : AcceptOffer) (x : Option Fault) → plain_accept t ≡ o → None ≡ bad_accept o → x ≡ first_fault (shared Accept ++ term) → x ≡ first_fault (acceptance_checks o state)
  accepted_by o x plain lawful verdict =
      subst (λ (p : AcceptOffer). None ≡ bad_accept p → x ≡ first_fault (acceptance_checks p state)) plain
      (λ ok. verdict ∙ ap (λ b. first_fault (bad_at b ∷ (shared Accept ++ term))) ok)
      lawful

  pub accept_refused : (o : AcceptOffer) (f : Fault) → plain_accept t ≡ o → None ≡ bad_accept o → Some f ≡ first_fault (shared Accept) → Some f ≡ first_fault (acceptance_checks o state)
  accept_refused o f plain lawful one = accepted_by o (Some f) plain lawful (one_before (shared Accept) term f one)

  pub accept_passed : (o : AcceptOffer) (x : Option Fault) → plain_accept t ≡ o → None ≡ bad_accept o → None ≡ first_fault (shared Accept) → x ≡ in_term t.offer state → x ≡ first_fault (acceptance_checks o state)
  accept_passed o x plain lawful none late = accepted_by o x plain lawful (late ∙ sym (last_one (in_term t.offer state)) ∙ sym (none_before (shared Accept) term none))

  pub recall_by : (o : RecallOffer) (x : Option Fault) → plain_recall t ≡ o → None ≡ bad_recall o → x ≡ first_fault (shared Recall) → x ≡ first_fault (recall_checks o state)
  recall_by o x plain lawful verdict =
      subst (λ (p : RecallOffer). None ≡ bad_recall p → x ≡ first_fault (recall_checks p state)) plain
      (λ ok. verdict ∙ ap (λ b. first_fault (bad_at b ∷ shared Recall)) ok)
      lawful
