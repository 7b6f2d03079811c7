-- What a register means: its day, its two books and its five tables. Assumes nothing.
use Rattle.std.specs.Prelude.{ℕ, ◌+◌, ◌-◌, min, Bool, List, length}
use Rattle.figures.specs.Accounts.{account_order}
use Rattle.figures.specs.Limits.{most_members}
use Rattle.figures.specs.declared.accounts.Account.{Account}
use Rattle.books.specs.Keys.{device_order}
use Rattle.books.specs.Ledger.{Ledger, matches, present}
use Rattle.order_file.specs.declared.orders.AccountOperand.{AccountOperand}
use Rattle.range_map.specs.declared.entry.Entry.{Entry}
use Rattle.register.specs.declared.rows.Cancellation.{Cancellation}
use Rattle.register.specs.declared.rows.Offer.{Offer}
use Rattle.register.specs.declared.rows.Origin.{Origin}
use Rattle.register.specs.declared.rows.Period.{Period}
use Rattle.register.specs.declared.rows.Standing.{Standing}

-- a map: how many slots it has, and the entries in use
pub record MapOf (P : Type 0) : Type 0 where
  pub slots : ℕ
  pub entries : List (Entry P)

pub record State : Type 0 where
  pub opened : Bool
  pub date : ℕ
  pub last : ℕ
  pub offered : ℕ
  pub cancelled : ℕ
  pub accounts : Ledger Account
  pub devices : Ledger ℕ
  pub periods : MapOf Period
  pub origins : MapOf Origin
  pub standings : MapOf Standing
  pub offers : List Offer
  pub cancellations : List Cancellation

-- the tests for one account and for one device
abbrev pub is_account : Account → Account → Bool
is_account = matches account_order

abbrev pub is_device : ℕ → ℕ → Bool
is_device = matches device_order

abbrev pub account_from : AccountOperand → Account
account_from a = record { first = a.first; second = a.second; number = a.number }

abbrev pub has_account : Account → State → Bool
has_account a s = present (is_account a) s.accounts.members

abbrev pub has_device : ℕ → State → Bool
has_device d s = present (is_device d) s.devices.members

-- of a table of offers or cancellations at most 99,999,999 slots count
abbrev pub room : {X : Type 0} → List X → ℕ
room rows = min (length rows) most_members

-- a device's days lie side by side in the table of periods, each device in a stretch of its own
abbrev pub days_of_device : ℕ
days_of_device = 32_768

-- how many numbers a range has
abbrev pub range_size : ℕ → ℕ → ℕ
range_size f l = l - f + 1
