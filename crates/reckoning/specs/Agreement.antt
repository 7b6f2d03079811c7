-- The tables of a register agree with what is reckoned from its booked calls. Assumes nothing.
use Rattle.std.specs.Prelude.{◌≡◌, ℕ, ◌+◌, ◌-◌, ◌*◌, ◌<◌, ◌≤◌, Bool, true, false, List, [], map, is_some, Some, None}
use Rattle.std.specs.Option.{unwrap_or}
use Rattle.figures.specs.Limits.{certificate_size}
use Rattle.figures.specs.declared.accounts.Account.{Account}
use Rattle.books.specs.Ledger.{Ledger, totals}
use Rattle.range_map.specs.Map.{nth}
use Rattle.range_map.specs.Placed.{payload_found}
use Rattle.register.specs.Runs.{New, run, history_from}
use Rattle.register.specs.State.{State, is_account, is_device}
use Rattle.register.specs.Terms.{lapsed}
use Rattle.register.specs.declared.calls.Call.{Call}
use Rattle.register.specs.declared.rows.Standing.TheVariants.{Held, Offered, Cancelled}
use Rattle.reckoning.specs.Allowed.{Lawful}
use Rattle.reckoning.specs.Reckoned.{History, today, accounts_opened, devices_registered, declared, issued, origin, offers_made, offer, cancellations_made, cancellation, status, held_count, open_names, cancel_names, offered_count, day_open}

-- a member's totals; without a member they read as 0
abbrev pub totals_of : {P : Type 0} → (P → Bool) → Ledger P → ℕ × ℕ
totals_of is l = unwrap_or (totals is l.members) (0, 0)

pub record Agrees (h : History) (s : State) : Type 0 where
  -- each number stands as reckoned, and has the origin that is reckoned
  pub standing : (n : ℕ) → payload_found n s.standings.entries ≡ status h n
  pub origins : (n : ℕ) → payload_found n s.origins.entries ≡ origin h n
  -- each number up to the last one issued is exactly one of held, offered, cancelled and expired; no other is any of these
  pub one_of_four : (n : ℕ) → 1 ≤ n → n ≤ issued h → is_some (status h n) ≡ true
  pub no_more : (n : ℕ) → issued h < n → status h n ≡ None
  pub not_zero : status h 0 ≡ None
  -- offered exactly when an open offer names it; no two open offers share a number
  pub offered_named : (n k : ℕ) → status h n ≡ Some (Offered k) → open_names (offer h k) n ≡ true
  pub named_offered : (n k : ℕ) → open_names (offer h k) n ≡ true → status h n ≡ Some (Offered k)
  pub one_offer : (n j k : ℕ) → open_names (offer h j) n ≡ true → open_names (offer h k) n ≡ true → j ≡ k
  -- cancelled exactly when a booked cancellation names it; no two cancellations share a number
  pub cancelled_named : (n k : ℕ) → status h n ≡ Some (Cancelled k) → cancel_names (cancellation h k) n ≡ true
  pub named_cancelled : (n k : ℕ) → cancel_names (cancellation h k) n ≡ true → status h n ≡ Some (Cancelled k)
  pub one_cancellation : (n j k : ℕ) → cancel_names (cancellation h j) n ≡ true → cancel_names (cancellation h k) n ≡ true → j ≡ k
  -- an account's totals are how many numbers it holds and how many the open offers it made name; one in no book has none
  pub held_total : (a : Account) → (totals_of (is_account a) s.accounts).0 ≡ held_count h a
  pub offered_total : (a : Account) → (totals_of (is_account a) s.accounts).1 ≡ offered_count h a
  -- no held number is past its last valid day
  pub within_term : (n : ℕ) (a : Account) → status h n ≡ Some (Held a) → lapsed (today h) (origin h n) ≡ false
  -- a device's certificates and its remainder are its declared watt-hours
  pub energy : (d : ℕ) → certificate_size * (totals_of (is_device d) s.devices).1 + (totals_of (is_device d) s.devices).0 ≡ declared h d
  pub remainder : (d : ℕ) → (totals_of (is_device d) s.devices).0 < certificate_size
  -- the members are the accounts opened and the devices registered, in that order
  pub accounts : map (λ m. m.key) s.accounts.members ≡ accounts_opened h
  pub devices : map (λ m. m.key) s.devices.members ≡ devices_registered h
  -- the day, and what is on record
  pub phase : s.opened ≡ day_open h
  pub date : s.date ≡ today h
  pub last : s.last ≡ issued h
  pub offers_on_record : s.offered ≡ offers_made h
  pub cancellations_on_record : s.cancelled ≡ cancellations_made h
  pub offers : (k : ℕ) → 1 ≤ k → k ≤ offers_made h → nth (k - 1) s.offers ≡ offer h k
  pub cancellations : (k : ℕ) → 1 ≤ k → k ≤ cancellations_made h → nth (k - 1) s.cancellations ≡ cancellation h k
  -- every booked call was lawful when it was made
  pub lawful : Lawful h

-- From a new register, over any slots and any books, whatever calls are made in whatever order, booked or refused:
-- the tables agree with what is reckoned from the booked calls.
abbrev pub EveryRunAgrees : Type 0
EveryRunAgrees = (calls : List Call) (s : State) → New s → Agrees (history_from calls s []) (run calls s)
