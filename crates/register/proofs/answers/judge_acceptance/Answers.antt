use Rattle.std.proofs.Common.{Some, None, Result, ap, ◌∙◌}
use Rattle.std.proofs.lemmas.Result.{err_from_is_err_and}
use Rattle.range_map.specs.Map.{in_use}
use Rattle.register.specs.Answers.{past_term}
use Rattle.register.specs.Faults.{fault_in}
use Rattle.register.specs.Holdings.{first_overdue}
use Rattle.register.proofs.Judging.{accept_refused, accept_passed}
use Rattle.register.proofs.answers.judge_acceptance.Goals as goal

pub returns-in_err-offer-clause-verdict : goal.returns-in_err-offer-clause-verdict
returns-in_err-offer-clause-verdict g c =
    let p = err_from_is_err_and c.from_residual-in_err-offer.result c.from_residual-in_err-offer.ensures.1 in
    ap fault_in (p.1 ∙ ap Result.Err p.2)
    ∙ accept_refused c.args.day (g.AccountBook.Book.meaning c.args.register.now.accounts) (g.DeviceBook.Book.meaning c.args.register.now.devices) c.args.register.now.tables c.in_ok-answer.answer c.args.order c.in_err-offer.field-0.0 c.in_ok-answer.ensures.checked c.in_ok-answer.ensures.refused_at c.in_err-offer.ensures.verdict

pub returns-in_err-check_in_term-clause-verdict : goal.returns-in_err-check_in_term-clause-verdict
returns-in_err-check_in_term-clause-verdict g c =
    let p = err_from_is_err_and c.from_residual-in_err-check_in_term.result c.from_residual-in_err-check_in_term.ensures.1 in
    ap fault_in (p.1 ∙ ap Result.Err p.2)
    ∙ accept_passed c.args.day (g.AccountBook.Book.meaning c.args.register.now.accounts) (g.DeviceBook.Book.meaning c.args.register.now.devices) c.args.register.now.tables c.in_ok-answer.answer c.args.order (Some c.in_err-check_in_term.field-0.0) c.in_ok-answer.ensures.checked c.in_ok-answer.ensures.refused_at c.in_ok-offer.ensures.verdict (c.in_err-check_in_term.ensures.verdict ∙ ap (λ m. past_term (first_overdue c.in_ok-answer.answer.offer c.args.day.date (in_use c.args.register.now.tables.origins) m)) c.entries.ensures.as_they_lie)

pub returns-clause-verdict : goal.returns-clause-verdict
returns-clause-verdict g c =
    accept_passed c.args.day (g.AccountBook.Book.meaning c.args.register.now.accounts) (g.DeviceBook.Book.meaning c.args.register.now.devices) c.args.register.now.tables c.in_ok-answer.answer c.args.order None c.in_ok-answer.ensures.checked c.in_ok-answer.ensures.refused_at c.in_ok-offer.ensures.verdict (c.in_ok-check_in_term.ensures.verdict ∙ ap (λ m. past_term (first_overdue c.in_ok-answer.answer.offer c.args.day.date (in_use c.args.register.now.tables.origins) m)) c.entries.ensures.as_they_lie)
