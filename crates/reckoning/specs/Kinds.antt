-- A value by the kind of a call: one for calls of that kind, another for every other call. Assumes nothing.
use Rattle.order_file.specs.declared.orders.AcceptOffer.{AcceptOffer}
use Rattle.order_file.specs.declared.orders.Cancel.{Cancel}
use Rattle.order_file.specs.declared.orders.Declare.{Declare}
use Rattle.order_file.specs.declared.orders.MakeOffer.{MakeOffer}
use Rattle.order_file.specs.declared.orders.NewDay.{NewDay}
use Rattle.order_file.specs.declared.orders.OpenAccount.{OpenAccount}
use Rattle.order_file.specs.declared.orders.RecallOffer.{RecallOffer}
use Rattle.order_file.specs.declared.orders.RegisterDevice.{RegisterDevice}
use Rattle.register.specs.declared.calls.Call.{Call}
use Rattle.register.specs.declared.calls.Call.TheVariants as call

abbrev pub if_account : {X : Type 0} → Call → (OpenAccount → X) → X → X
if_account (call.Account o) then else = then o
if_account (call.Device o) then else = else
if_account (call.Declaration o) then else = else
if_account (call.Offer o) then else = else
if_account (call.Acceptance o) then else = else
if_account (call.Recall o) then else = else
if_account (call.Cancellation o) then else = else
if_account (call.DayOpening o) then else = else
if_account call.DayClosing then else = else

abbrev pub if_device : {X : Type 0} → Call → (RegisterDevice → X) → X → X
if_device (call.Account o) then else = else
if_device (call.Device o) then else = then o
if_device (call.Declaration o) then else = else
if_device (call.Offer o) then else = else
if_device (call.Acceptance o) then else = else
if_device (call.Recall o) then else = else
if_device (call.Cancellation o) then else = else
if_device (call.DayOpening o) then else = else
if_device call.DayClosing then else = else

abbrev pub if_declaration : {X : Type 0} → Call → (Declare → X) → X → X
if_declaration (call.Account o) then else = else
if_declaration (call.Device o) then else = else
if_declaration (call.Declaration o) then else = then o
if_declaration (call.Offer o) then else = else
if_declaration (call.Acceptance o) then else = else
if_declaration (call.Recall o) then else = else
if_declaration (call.Cancellation o) then else = else
if_declaration (call.DayOpening o) then else = else
if_declaration call.DayClosing then else = else

abbrev pub if_offer : {X : Type 0} → Call → (MakeOffer → X) → X → X
if_offer (call.Account o) then else = else
if_offer (call.Device o) then else = else
if_offer (call.Declaration o) then else = else
if_offer (call.Offer o) then else = then o
if_offer (call.Acceptance o) then else = else
if_offer (call.Recall o) then else = else
if_offer (call.Cancellation o) then else = else
if_offer (call.DayOpening o) then else = else
if_offer call.DayClosing then else = else

abbrev pub if_acceptance : {X : Type 0} → Call → (AcceptOffer → X) → X → X
if_acceptance (call.Account o) then else = else
if_acceptance (call.Device o) then else = else
if_acceptance (call.Declaration o) then else = else
if_acceptance (call.Offer o) then else = else
if_acceptance (call.Acceptance o) then else = then o
if_acceptance (call.Recall o) then else = else
if_acceptance (call.Cancellation o) then else = else
if_acceptance (call.DayOpening o) then else = else
if_acceptance call.DayClosing then else = else

abbrev pub if_recall : {X : Type 0} → Call → (RecallOffer → X) → X → X
if_recall (call.Account o) then else = else
if_recall (call.Device o) then else = else
if_recall (call.Declaration o) then else = else
if_recall (call.Offer o) then else = else
if_recall (call.Acceptance o) then else = else
if_recall (call.Recall o) then else = then o
if_recall (call.Cancellation o) then else = else
if_recall (call.DayOpening o) then else = else
if_recall call.DayClosing then else = else

abbrev pub if_cancellation : {X : Type 0} → Call → (Cancel → X) → X → X
if_cancellation (call.Account o) then else = else
if_cancellation (call.Device o) then else = else
if_cancellation (call.Declaration o) then else = else
if_cancellation (call.Offer o) then else = else
if_cancellation (call.Acceptance o) then else = else
if_cancellation (call.Recall o) then else = else
if_cancellation (call.Cancellation o) then else = then o
if_cancellation (call.DayOpening o) then else = else
if_cancellation call.DayClosing then else = else

abbrev pub if_day_opening : {X : Type 0} → Call → (NewDay → X) → X → X
if_day_opening (call.Account o) then else = else
if_day_opening (call.Device o) then else = else
if_day_opening (call.Declaration o) then else = else
if_day_opening (call.Offer o) then else = else
if_day_opening (call.Acceptance o) then else = else
if_day_opening (call.Recall o) then else = else
if_day_opening (call.Cancellation o) then else = else
if_day_opening (call.DayOpening o) then else = then o
if_day_opening call.DayClosing then else = else
