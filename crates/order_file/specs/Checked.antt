-- What the checked values say in plain operands. Assumes nothing.
use Rattle.std.specs.Prelude.{ℕ}
use Rattle.figures.specs.declared.accounts.Account.{Account}
use Rattle.figures.specs.declared.devices.Device.{Device}
use Rattle.order_file.specs.declared.checked.CancellationTerms.{CancellationTerms}
use Rattle.order_file.specs.declared.checked.Declaration.{Declaration}
use Rattle.order_file.specs.declared.checked.OfferAnswer.{OfferAnswer}
use Rattle.order_file.specs.declared.checked.OfferTerms.{OfferTerms}
use Rattle.order_file.specs.declared.day_range.DayRange.{DayRange}
use Rattle.order_file.specs.declared.number_range.NumberRange.{NumberRange}
use Rattle.order_file.specs.declared.orders.AcceptOffer.{AcceptOffer}
use Rattle.order_file.specs.declared.orders.AccountOperand.{AccountOperand}
use Rattle.order_file.specs.declared.orders.Cancel.{Cancel}
use Rattle.order_file.specs.declared.orders.Declare.{Declare}
use Rattle.order_file.specs.declared.orders.MakeOffer.{MakeOffer}
use Rattle.order_file.specs.declared.orders.OpenAccount.{OpenAccount}
use Rattle.order_file.specs.declared.orders.RecallOffer.{RecallOffer}
use Rattle.order_file.specs.declared.orders.RegisterDevice.{RegisterDevice}

abbrev pub number_ends : NumberRange → ℕ × ℕ
number_ends range = (range.first.0, range.last.0)

abbrev pub day_ends : DayRange → ℕ × ℕ
day_ends range = (range.first, range.last)

abbrev pub plain_account : Account → AccountOperand
plain_account a = record { first = a.first; second = a.second; number = a.number }

abbrev pub plain_opening : Account → OpenAccount
plain_opening a = record { account = plain_account a }

abbrev pub plain_device : Device → RegisterDevice
plain_device d = record { device = d.digits }

abbrev pub plain_declaration : Declaration → Declare
plain_declaration d = record { device = d.device.digits; account = plain_account d.account; first_day = d.days.first; last_day = d.days.last; energy = d.energy.0 }

abbrev pub plain_offer : OfferTerms → MakeOffer
plain_offer o = record { from = plain_account o.from; to = plain_account o.to; first = o.numbers.first.0; last = o.numbers.last.0 }

abbrev pub plain_accept : OfferAnswer → AcceptOffer
plain_accept a = record { account = plain_account a.account; offer = a.offer }

abbrev pub plain_recall : OfferAnswer → RecallOffer
plain_recall a = record { account = plain_account a.account; offer = a.offer }

abbrev pub plain_cancellation : CancellationTerms → Cancel
plain_cancellation t = record { account = plain_account t.account; first = t.numbers.first.0; last = t.numbers.last.0; year = t.year.year; beneficiary = t.beneficiary.bytes }
