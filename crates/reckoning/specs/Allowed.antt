-- What made each booked call lawful when it was made, in terms of the calls before it. Assumes nothing.
use Rattle.std.specs.Prelude.{◌≡◌, ℕ, ◌+◌, ◌<◌, ◌≤◌, Bool, true, false, ◌||◌, List, [], ◌∷◌, Some}
use Rattle.figures.specs.Limits.{last_certificate_number, last_working_day, most_energy}
use Rattle.figures.specs.declared.accounts.Account.{Account}
use Rattle.order_file.specs.declared.orders.AcceptOffer.{AcceptOffer}
use Rattle.order_file.specs.declared.orders.Cancel.{Cancel}
use Rattle.order_file.specs.declared.orders.Declare.{Declare}
use Rattle.order_file.specs.declared.orders.MakeOffer.{MakeOffer}
use Rattle.register.specs.Runs.{in_turn}
use Rattle.register.specs.State.{is_account, is_device, account_from}
use Rattle.register.specs.Terms.{lapsed, valid_until}
use Rattle.register.specs.declared.calls.Call.{Call}
use Rattle.register.specs.declared.calls.Call.TheVariants as call
use Rattle.register.specs.declared.rows.Offer.{Offer}
use Rattle.register.specs.declared.rows.OfferState.TheVariants.{Open}
use Rattle.register.specs.declared.rows.Standing.TheVariants.{Held, Offered}
use Rattle.reckoning.specs.Reckoned.{History, today, accounts_opened, devices_registered, issued_by, issued, origin, offer, status, day_open}

-- one of them passes the test
abbrev pub any : {X : Type 0} → (X → Bool) → List X → Bool
any t [] = false
any t (x ∷ xs) = t x || any t xs

abbrev pub opened : History → Account → Bool
opened h a = any (is_account a) (accounts_opened h)

abbrev pub registered : History → ℕ → Bool
registered h d = any (is_device d) (devices_registered h)

-- the account holds every number from f to l
pub record HoldsAll (h : History) (a : Account) (f l : ℕ) : Type 0 where
  pub from_one : 1 ≤ f
  pub rising : f ≤ l
  pub each : (n : ℕ) → f ≤ n → n ≤ l → status h n ≡ Some (Held a)

pub record Declares (h : History) (o : Declare) : Type 0 where
  pub device : registered h o.device ≡ true
  pub account : opened h (account_from o.account) ≡ true
  pub days : o.first_day ≤ o.last_day
  pub produced : o.last_day < today h
  pub within_term : today h ≤ valid_until o.last_day
  pub some_energy : 1 ≤ o.energy
  pub energy : o.energy ≤ most_energy
  pub numbers : issued h + issued_by h o ≤ last_certificate_number

pub record Offers (h : History) (o : MakeOffer) : Type 0 where
  pub apart : is_account (account_from o.from) (account_from o.to) ≡ false
  pub from : opened h (account_from o.from) ≡ true
  pub to : opened h (account_from o.to) ≡ true
  pub held : HoldsAll h (account_from o.from) o.first o.last

-- an open offer of that number, of which the account is that party
pub record Answers (h : History) (k : ℕ) (a : Account) (party : Offer → Account) : Type 0 where
  pub terms : Offer
  pub made : offer h k ≡ Some terms
  pub still_open : terms.state ≡ Open
  pub by : party terms ≡ a
  pub known : opened h a ≡ true

pub record Accepts (h : History) (o : AcceptOffer) : Type 0 where
  pub answers : Answers h o.offer (account_from o.account) (λ f. f.to)
  pub within_term : (n : ℕ) → status h n ≡ Some (Offered o.offer) → lapsed (today h) (origin h n) ≡ false

pub record Cancels (h : History) (o : Cancel) : Type 0 where
  pub account : opened h (account_from o.account) ≡ true
  pub held : HoldsAll h (account_from o.account) o.first o.last

-- each call by its kind
abbrev pub Permitted : Call → History → Type 0
Permitted (call.Account o) h = opened h (account_from o.account) ≡ false
Permitted (call.Device o) h = registered h o.device ≡ false
Permitted (call.Declaration o) h = Declares h o
Permitted (call.Offer o) h = Offers h o
Permitted (call.Acceptance o) h = Accepts h o
Permitted (call.Recall o) h = Answers h o.offer (account_from o.account) (λ f. f.from)
Permitted (call.Cancellation o) h = Cancels h o
Permitted (call.DayOpening o) h = (today h < o.date) × (o.date ≤ last_working_day)
Permitted call.DayClosing h = Unit {0}

-- every booked call was in turn and permitted when it was made
abbrev pub Lawful : History → Type 0
Lawful [] = Unit {0}
Lawful (c ∷ h) = (in_turn c (day_open h) ≡ true) × Permitted c h × Lawful h
