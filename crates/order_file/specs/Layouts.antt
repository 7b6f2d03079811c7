-- Where the operands of each kind stand, by their distance from the command byte. `bytes` are those after
-- the command byte. Assumes nothing.
use Rattle.std.specs.Prelude.{ℕ, ◌+◌, ◌-◌, List, take, drop}
use Rattle.std.specs.Int.Digits.{number_from_digits}
use Rattle.order_file.specs.declared.kinds.Kind.{Kind}
use Rattle.order_file.specs.declared.kinds.Kind.TheVariants as kind
use Rattle.order_file.specs.declared.orders.AcceptOffer.{AcceptOffer}
use Rattle.order_file.specs.declared.orders.AccountOperand.{AccountOperand}
use Rattle.order_file.specs.declared.orders.Cancel.{Cancel}
use Rattle.order_file.specs.declared.orders.Declare.{Declare}
use Rattle.order_file.specs.declared.orders.MakeOffer.{MakeOffer}
use Rattle.order_file.specs.declared.orders.NewDay.{NewDay}
use Rattle.order_file.specs.declared.orders.OpenAccount.{OpenAccount}
use Rattle.order_file.specs.declared.orders.Order.{Order}
use Rattle.order_file.specs.declared.orders.Order.TheVariants as order
use Rattle.order_file.specs.declared.orders.RecallOffer.{RecallOffer}
use Rattle.order_file.specs.declared.orders.RegisterDevice.{RegisterDevice}

-- the number that bytes write, high byte first
abbrev pub number_of_bytes : List ℕ → ℕ
number_of_bytes bytes = number_from_digits 256 bytes

-- the `width` bytes that stand `distance` bytes from the command byte
abbrev pub bytes_at : List ℕ → ℕ → ℕ → List ℕ
bytes_at bytes distance width = take width (drop (distance - 1) bytes)

abbrev pub number_at : List ℕ → ℕ → ℕ → ℕ
number_at bytes distance width = number_of_bytes (bytes_at bytes distance width)

-- two letters and four bytes of number
abbrev pub account_at : List ℕ → ℕ → AccountOperand
account_at bytes distance = record { first = number_at bytes distance 1; second = number_at bytes (distance + 1) 1; number = number_at bytes (distance + 2) 4 }

abbrev pub open_account_of : List ℕ → OpenAccount
open_account_of bytes = record { account = account_at bytes 1 }

abbrev pub register_device_of : List ℕ → RegisterDevice
register_device_of bytes = record { device = number_at bytes 1 8 }

abbrev pub new_day_of : List ℕ → NewDay
new_day_of bytes = record { date = number_at bytes 1 4 }

abbrev pub declare_of : List ℕ → Declare
declare_of bytes = record { device = number_at bytes 1 8; account = account_at bytes 9; first_day = number_at bytes 15 4; last_day = number_at bytes 19 4; energy = number_at bytes 23 8 }

abbrev pub make_offer_of : List ℕ → MakeOffer
make_offer_of bytes = record { from = account_at bytes 1; to = account_at bytes 7; first = number_at bytes 13 8; last = number_at bytes 21 8 }

abbrev pub accept_offer_of : List ℕ → AcceptOffer
accept_offer_of bytes = record { account = account_at bytes 1; offer = number_at bytes 7 4 }

abbrev pub recall_offer_of : List ℕ → RecallOffer
recall_offer_of bytes = record { account = account_at bytes 1; offer = number_at bytes 7 4 }

abbrev pub cancel_of : List ℕ → Cancel
cancel_of bytes = record { account = account_at bytes 1; first = number_at bytes 7 8; last = number_at bytes 15 8; year = number_at bytes 23 2; beneficiary = bytes_at bytes 25 24 }

-- the order of this kind that the bytes after its command byte write
abbrev pub order_of : Kind → List ℕ → Order
order_of kind.Account bytes = order.Account (open_account_of bytes)
order_of kind.Device bytes = order.Device (register_device_of bytes)
order_of kind.Day bytes = order.Day (new_day_of bytes)
order_of kind.Declare bytes = order.Declare (declare_of bytes)
order_of kind.Offer bytes = order.Offer (make_offer_of bytes)
order_of kind.Accept bytes = order.Accept (accept_offer_of bytes)
order_of kind.Recall bytes = order.Recall (recall_offer_of bytes)
order_of kind.Cancel bytes = order.Cancel (cancel_of bytes)
