-- What is true after every call, in parts: of the reckoning alone, of the maps, of the rows, of the totals.
use Rattle.std.proofs.Common.{◌≡◌, ℕ, ◌+◌, ◌-◌, ◌/◌, ◌%◌, ◌<◌, ◌≤◌, Bool, true, false, List, [], ◌∷◌, map, is_some, Some, None, Option}
use Rattle.figures.specs.Limits.{certificate_size, last_certificate_number}
use Rattle.figures.specs.declared.accounts.Account.{Account}
use Rattle.range_map.specs.Counts.{how_many}
use Rattle.range_map.specs.Map.{nth}
use Rattle.range_map.specs.Plain.{Rising, payload_at}
use Rattle.range_map.specs.declared.entry.Entry.{Entry}
use Rattle.register.specs.State.{State, is_account, is_device}
use Rattle.register.specs.Terms.{lapsed}
use Rattle.register.specs.declared.rows.Offer.{Offer}
use Rattle.register.specs.declared.rows.Origin.{Origin}
use Rattle.register.specs.declared.rows.Standing.{Standing}
use Rattle.register.specs.declared.rows.Standing.TheVariants.{Held, Offered, Cancelled, Expired}
use Rattle.reckoning.specs.Agreement.{totals_of}
use Rattle.reckoning.specs.Reckoned.{History, today, accounts_opened, devices_registered, declared, due_to, issued, origin, offers_made, offer, cancellations_made, cancellation, status, held_count, open_names, cancel_names, day_open}

-- facts of the reckoning alone
pub record Sound (h : History) : Type 0 where
  pub covered : (n : ℕ) → 1 ≤ n → n ≤ issued h → is_some (status h n) ≡ true
  pub fresh : (n : ℕ) → issued h < n → status h n ≡ None
  pub zero : status h 0 ≡ None
  pub limit : issued h ≤ last_certificate_number
  pub due : (d : ℕ) → due_to h d ≤ issued h
  pub offered_named : (n k : ℕ) → status h n ≡ Some (Offered k) → open_names (offer h k) n ≡ true
  pub named_offered : (n k : ℕ) → open_names (offer h k) n ≡ true → status h n ≡ Some (Offered k)
  pub cancelled_named : (n k : ℕ) → status h n ≡ Some (Cancelled k) → cancel_names (cancellation h k) n ≡ true
  pub named_cancelled : (n k : ℕ) → cancel_names (cancellation h k) n ≡ true → status h n ≡ Some (Cancelled k)
  pub no_offer_0 : offer h 0 ≡ None
  pub no_offer_past : (k : ℕ) → offers_made h < k → offer h k ≡ None
  pub no_cancellation_past : (k : ℕ) → cancellations_made h < k → cancellation h k ≡ None
  -- the range of an offer: numbers that were issued
  pub offer_range : (k : ℕ) (f : Offer) → offer h k ≡ Some f → (1 ≤ f.first.0) × (f.first.0 ≤ f.last.0) × (f.last.0 ≤ issued h)
  pub within_term : (n : ℕ) (a : Account) → status h n ≡ Some (Held a) → lapsed (today h) (origin h n) ≡ false

-- a fact of every entry
abbrev pub Each : {P : Type 0} → (Entry P → Type 0) → List (Entry P) → Type 0
Each Q [] = Unit {0}
Each Q (e ∷ m) = Q e × Each Q m

-- every number of an entry has the origin of its first number
abbrev pub Even : (ℕ → Option Origin) → List (Entry Standing) → Type 0
Even o m = Each (λ e. (n : ℕ) → e.first ≤ n → n ≤ e.last → o n ≡ o e.first) m

pub record Maps (h : History) (s : State) : Type 0 where
  pub standings_rise : Rising s.standings.entries
  pub origins_rise : Rising s.origins.entries
  pub standings : (n : ℕ) → payload_at n s.standings.entries ≡ status h n
  pub origins : (n : ℕ) → payload_at n s.origins.entries ≡ origin h n
  pub even : Even (origin h) s.standings.entries

pub record Rows (h : History) (s : State) : Type 0 where
  pub phase : s.opened ≡ day_open h
  pub date : s.date ≡ today h
  pub last : s.last ≡ issued h
  pub offers_on_record : s.offered ≡ offers_made h
  pub cancellations_on_record : s.cancelled ≡ cancellations_made h
  pub offers : (k : ℕ) → 1 ≤ k → k ≤ offers_made h → nth (k - 1) s.offers ≡ offer h k
  pub cancellations : (k : ℕ) → 1 ≤ k → k ≤ cancellations_made h → nth (k - 1) s.cancellations ≡ cancellation h k
  pub account_keys : map (λ m. m.key) s.accounts.members ≡ accounts_opened h
  pub device_keys : map (λ m. m.key) s.devices.members ≡ devices_registered h

-- the number is offered, under an offer that the account made
abbrev pub made_by : Account → Option Offer → Bool
made_by a None = false
made_by a (Some f) = is_account a f.from

abbrev pub offered_by : History → Account → Option Standing → Bool
offered_by h a None = false
offered_by h a (Some (Held b)) = false
offered_by h a (Some (Offered k)) = made_by a (offer h k)
offered_by h a (Some (Cancelled k)) = false
offered_by h a (Some Expired) = false

-- how many numbers stand offered under offers that the account made
unfoldable pub offered_numbers : History → Account → ℕ
offered_numbers h a = how_many (λ n. offered_by h a (status h n)) (issued h + 1)

pub record Totals (h : History) (s : State) : Type 0 where
  pub held : (a : Account) → (totals_of (is_account a) s.accounts).0 ≡ held_count h a
  pub offered : (a : Account) → (totals_of (is_account a) s.accounts).1 ≡ offered_numbers h a

pub record Energies (h : History) (s : State) : Type 0 where
  pub remainder : (d : ℕ) → (totals_of (is_device d) s.devices).0 ≡ declared h d % certificate_size
  pub certificates : (d : ℕ) → (totals_of (is_device d) s.devices).1 ≡ declared h d / certificate_size

pub record Matches (h : History) (s : State) : Type 0 where
  pub maps : Maps h s
  pub rows : Rows h s
  pub totals : Totals h s
  pub energies : Energies h s
