-- The first operand outside its rule, by its distance from the command byte; a pair answers the distance of
-- its last. Assumes nothing.
use Rattle.std.specs.Prelude.{ℕ, Bool, cond, Some, None, Ok, Err, Option, Result}
use Rattle.figures.specs.Accounts.{account_lawful}
use Rattle.figures.specs.Gs1.{gs1}
use Rattle.order_file.specs.Operands.{numbers_lawful, days_lawful, energy_lawful, year_lawful, beneficiary_lawful}
use Rattle.order_file.specs.declared.faults.OperandFault.{OperandFault}
use Rattle.order_file.specs.declared.orders.AcceptOffer.{AcceptOffer}
use Rattle.order_file.specs.declared.orders.AccountOperand.{AccountOperand}
use Rattle.order_file.specs.declared.orders.Cancel.{Cancel}
use Rattle.order_file.specs.declared.orders.Declare.{Declare}
use Rattle.order_file.specs.declared.orders.MakeOffer.{MakeOffer}
use Rattle.order_file.specs.declared.orders.OpenAccount.{OpenAccount}
use Rattle.order_file.specs.declared.orders.Order.{Order}
use Rattle.order_file.specs.declared.orders.Order.TheVariants as order
use Rattle.order_file.specs.declared.orders.RecallOffer.{RecallOffer}
use Rattle.order_file.specs.declared.orders.RegisterDevice.{RegisterDevice}

-- the distance that an answer refuses, if it does
abbrev pub refused_at : {X : Type 0} → Result X OperandFault → Option ℕ
refused_at (Ok x) = None
refused_at (Err fault) = Some fault.distance

-- an operand that is not lawful is refused at its distance; else what follows decides
abbrev pub operand : Bool → ℕ → Option ℕ → Option ℕ
operand lawful distance rest = cond lawful rest (Some distance)

abbrev pub lawful_account : AccountOperand → Bool
lawful_account a = account_lawful a.first a.second a.number

abbrev pub bad_opening : OpenAccount → Option ℕ
bad_opening o = operand (lawful_account o.account) 1 None

abbrev pub bad_device : RegisterDevice → Option ℕ
bad_device o = operand (gs1 o.device) 1 None

abbrev pub bad_declare : Declare → Option ℕ
bad_declare o = operand (gs1 o.device) 1 (operand (lawful_account o.account) 9 (operand (days_lawful o.first_day o.last_day) 19 (operand (energy_lawful o.energy) 23 None)))

abbrev pub bad_offer : MakeOffer → Option ℕ
bad_offer o = operand (lawful_account o.from) 1 (operand (lawful_account o.to) 7 (operand (numbers_lawful o.first o.last) 21 None))

-- any offer number is lawful here
abbrev pub bad_accept : AcceptOffer → Option ℕ
bad_accept o = operand (lawful_account o.account) 1 None

abbrev pub bad_recall : RecallOffer → Option ℕ
bad_recall o = operand (lawful_account o.account) 1 None

abbrev pub bad_cancel : Cancel → Option ℕ
bad_cancel o = operand (lawful_account o.account) 1 (operand (numbers_lawful o.first o.last) 15 (operand (year_lawful o.year) 23 (operand (beneficiary_lawful o.beneficiary) 25 None)))

-- a date has no rule of its own here: it is judged against the day before it
abbrev pub bad_order : Order → Option ℕ
bad_order (order.Account o) = bad_opening o
bad_order (order.Device o) = bad_device o
bad_order (order.Day o) = None
bad_order (order.Declare o) = bad_declare o
bad_order (order.Offer o) = bad_offer o
bad_order (order.Accept o) = bad_accept o
bad_order (order.Recall o) = bad_recall o
bad_order (order.Cancel o) = bad_cancel o
