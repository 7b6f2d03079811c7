use Rattle.std.proofs.Common.{true, refl, ap}
use Rattle.std.proofs.lemmas.Result.{err_from_is_err_and}
use Rattle.std.proofs.lemmas.Bool.{true≢false}
use Rattle.register.specs.Bookings.{acceptance, acceptance_of}
use Rattle.register.specs.Checks.{acceptance_checks}
use Rattle.register.specs.Settled.{state_of}
use Rattle.register.specs.declared.answers.OfferCall.TheVariants.{Accept}
use Rattle.register.proofs.Answering.{settles_refused, settles_booked, answer_booked}
use Rattle.register.proofs.day.OpenDay.accept.Goals as goal

pub returns-in_err-offer : goal.returns-in_err-offer
returns-in_err-offer g c =
    let p = err_from_is_err_and c.from_residual.result c.from_residual.ensures.1 in
    let devices = g.DeviceBook.Book.meaning c.args.register.now.devices in
    let before = state_of true c.args.self.now.figures (g.AccountBook.Book.meaning c.args.register.now.accounts) devices c.args.register.now.tables in
    rw (p.1, p.2) record {
      settles = settles_refused (acceptance_checks c.args.order) (λ _. tt) (acceptance c.args.order) before c.in_err-offer.field-0.0 c.in_err-offer.ensures.verdict;
      leaves_day = refl;
      refusal_leaves_accounts = λ _. refl;
      leaves_devices = refl;
      refusal_leaves_tables = λ _. refl;
    }

pub returns : goal.returns
returns g c =
    let accounts = g.AccountBook.Book.meaning c.args.register.now.accounts in
    let accounts' = g.AccountBook.Book.meaning c.book_acceptance.new.register.accounts in
    let devices = g.DeviceBook.Book.meaning c.args.register.now.devices in
    let devices' = g.DeviceBook.Book.meaning c.book_acceptance.new.register.devices in
    let day = c.args.self.now.figures in
    let k = c.args.order.offer in
    record {
      settles =
          settles_booked (acceptance_checks c.args.order) (λ _. tt) (acceptance c.args.order) (state_of true day accounts devices c.args.register.now.tables) (state_of true day accounts' devices' c.book_acceptance.new.register.tables)
          c.in_ok-offer.ensures.verdict
          (answer_booked Accept k c.in_ok-offer.offer day accounts accounts' _ devices devices' c.args.register.now.tables c.book_acceptance.new.register.tables _ c.in_ok-offer.ensures.on_record c.in_ok-offer.ensures.open c.book_acceptance.ensures.totals c.book_acceptance.ensures.standings c.book_acceptance.ensures.answered (ap g.DeviceBook.Book.meaning c.book_acceptance.ensures.devices_stay) c.book_acceptance.ensures.periods_stay c.book_acceptance.ensures.origins_stay c.book_acceptance.ensures.cancellations_stay (acceptance_of k) refl);
      leaves_day = refl;
      refusal_leaves_accounts = λ e. absurd (true≢false e);
      leaves_devices = c.book_acceptance.ensures.devices_stay;
      refusal_leaves_tables = λ e. absurd (true≢false e);
    }
