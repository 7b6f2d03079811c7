-- An order that is not refused has lawful operands. Assumes nothing.
use Rattle.std.proofs.Common.{◌≡◌, ℕ, Bool, true, None, Option, arith}
use Rattle.figures.specs.Gs1.{gs1}
use Rattle.order_file.specs.Checks.{operand, lawful_account, bad_declare, bad_offer, bad_cancel}
use Rattle.order_file.specs.Operands.{numbers_lawful, days_lawful, energy_lawful, year_lawful, beneficiary_lawful}
use Rattle.order_file.specs.declared.orders.Cancel.{Cancel}
use Rattle.order_file.specs.declared.orders.Declare.{Declare}
use Rattle.order_file.specs.declared.orders.MakeOffer.{MakeOffer}

-- one operand at a time
pub passes : (lawful : Bool) (distance : ℕ) (rest : Option ℕ) → operand lawful distance rest ≡ None → (lawful ≡ true) × (rest ≡ None)
passes lawful distance rest none = (grind arith, grind arith)

pub record LawfulDeclare (o : Declare) : Type 0 where
  pub device : gs1 o.device ≡ true
  pub account : lawful_account o.account ≡ true
  pub days : days_lawful o.first_day o.last_day ≡ true
  pub energy : energy_lawful o.energy ≡ true

pub lawful_declare : (o : Declare) → bad_declare o ≡ None → LawfulDeclare o
lawful_declare o none =
    let device = passes _ _ _ none in
    let account = passes _ _ _ device.1 in
    let days = passes _ _ _ account.1 in
    let energy = passes _ _ _ days.1 in
    record { device = device.0; account = account.0; days = days.0; energy = energy.0 }

pub record LawfulOffer (o : MakeOffer) : Type 0 where
  pub from : lawful_account o.from ≡ true
  pub to : lawful_account o.to ≡ true
  pub numbers : numbers_lawful o.first o.last ≡ true

pub lawful_offer : (o : MakeOffer) → bad_offer o ≡ None → LawfulOffer o
lawful_offer o none =
    let from = passes _ _ _ none in
    let to = passes _ _ _ from.1 in
    let numbers = passes _ _ _ to.1 in
    record { from = from.0; to = to.0; numbers = numbers.0 }

pub record LawfulCancel (o : Cancel) : Type 0 where
  pub account : lawful_account o.account ≡ true
  pub numbers : numbers_lawful o.first o.last ≡ true
  pub year : year_lawful o.year ≡ true
  pub beneficiary : beneficiary_lawful o.beneficiary ≡ true

pub lawful_cancel : (o : Cancel) → bad_cancel o ≡ None → LawfulCancel o
lawful_cancel o none =
    let account = passes _ _ _ none in
    let numbers = passes _ _ _ account.1 in
    let year = passes _ _ _ numbers.1 in
    let beneficiary = passes _ _ _ year.1 in
    record { account = account.0; numbers = numbers.0; year = year.0; beneficiary = beneficiary.0 }
