use Rattle.std.proofs.Common.{◌≡◌, true, Some, None, Result, ap, ◌∙◌, subst}
use Rattle.std.proofs.lemmas.Result.{err_from_is_err_and}
use Rattle.order_file.specs.Checks.{bad_cancel}
use Rattle.register.specs.Checks.{bad_at, cancellation_checks}
use Rattle.register.specs.Settled.{state_of}
use Rattle.register.proofs.Verdicts.{Reaches, pass, known_rest, judged_err, ok_fault, ok_operand}
use Rattle.register.proofs.day.OpenDay.judge_cancellation.Goals as goal

pub returns-in_err-check_numbers : goal.returns-in_err-check_numbers
returns-in_err-check_numbers g c =
    let s = state_of true c.args.self.now.figures (g.AccountBook.Book.meaning c.args.register.now.accounts) (g.DeviceBook.Book.meaning c.args.register.now.devices) c.args.register.now.tables in
    let p = err_from_is_err_and c.from_residual-in_err-check_numbers.result c.from_residual-in_err-check_numbers.ensures.1 in
    let f = c.in_err-check_numbers.field-0.0 in
    record {
      judged = judged_err (p.1 ∙ ap Result.Err p.2)
          (subst (λ x. None ≡ bad_at (bad_cancel x) → Reaches (Some f) (cancellation_checks x s)) c.in_ok-terms.ensures.checked
          (λ lawful. pass lawful (pass (ok_fault c.in_ok-check_member.was c.check_member.ensures.verdict) (known_rest c.in_err-check_numbers.ensures.judged.verdict)))
          (ok_operand c.in_ok-terms.was c.check.ensures.refused_at));
    }
