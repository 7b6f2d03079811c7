use Rattle.std.proofs.Common.{true, Result, ap, ◌∙◌}
use Rattle.std.proofs.lemmas.Result.{err_from_is_err_and}
use Rattle.register.specs.Settled.{state_of}
use Rattle.register.proofs.Declaring.{days_refused, to_places, issue_of_lem}
use Rattle.register.proofs.Verdicts.{known_rest, judged_err, judged_ok, ok_fault, ok_operand}
use Rattle.register.proofs.day.OpenDay.judge_declaration.Goals as goal

pub returns-in_err-check_days : goal.returns-in_err-check_days
returns-in_err-check_days g c =
    let s = state_of true c.args.self.now.figures (g.AccountBook.Book.meaning c.args.register.now.accounts) (g.DeviceBook.Book.meaning c.args.register.now.devices) c.args.register.now.tables in
    let p = err_from_is_err_and c.from_residual-in_err-check_days.result c.from_residual-in_err-check_days.ensures.1 in
    record {
      judged = judged_err (p.1 ∙ ap Result.Err p.2)
          (days_refused c.args.order c.in_ok-declaration.declaration s c.in_ok-declaration.ensures.checked
          (ok_operand c.in_ok-declaration.was c.check.ensures.refused_at)
          (ok_fault c.in_ok-check_member.was c.check_member.ensures.verdict)
          (ok_fault c.in_ok-check_member-2.was c.check_member-2.ensures.verdict)
          c.in_err-check_days.ensures.verdict);
    }

pub returns-in_err-check_places : goal.returns-in_err-check_places
returns-in_err-check_places g c =
    let s = state_of true c.args.self.now.figures (g.AccountBook.Book.meaning c.args.register.now.accounts) (g.DeviceBook.Book.meaning c.args.register.now.devices) c.args.register.now.tables in
    let p = err_from_is_err_and c.from_residual-in_err-check_places.result c.from_residual-in_err-check_places.ensures.1 in
    record {
      judged = judged_err (p.1 ∙ ap Result.Err p.2)
          (to_places c.args.order c.in_ok-declaration.declaration s c.in_ok-declaration.ensures.checked c.of-issue.result c.of-issue.ensures.issue
          (ok_operand c.in_ok-declaration.was c.check.ensures.refused_at)
          (ok_fault c.in_ok-check_member.was c.check_member.ensures.verdict)
          (ok_fault c.in_ok-check_member-2.was c.check_member-2.ensures.verdict)
          (ok_fault c.in_ok-check_days.was c.check_days.ensures.verdict)
          (known_rest c.in_err-check_places.ensures.judged.verdict));
    }

pub returns : goal.returns
returns g c =
    let s = state_of true c.args.self.now.figures (g.AccountBook.Book.meaning c.args.register.now.accounts) (g.DeviceBook.Book.meaning c.args.register.now.devices) c.args.register.now.tables in
    let d = c.in_ok-declaration.declaration in
    let i = c.of-issue.result in
    record {
      judged = judged_ok (d, i)
          (to_places c.args.order d s c.in_ok-declaration.ensures.checked i c.of-issue.ensures.issue
          (ok_operand c.in_ok-declaration.was c.check.ensures.refused_at)
          (ok_fault c.in_ok-check_member.was c.check_member.ensures.verdict)
          (ok_fault c.in_ok-check_member-2.was c.check_member-2.ensures.verdict)
          (ok_fault c.in_ok-check_days.was c.check_days.ensures.verdict)
          (known_rest c.in_ok-check_places.ensures.judged.verdict))
          (record {
            operands = c.in_ok-declaration.ensures.checked;
            issue = issue_of_lem c.args.order d s c.in_ok-declaration.ensures.checked i c.of-issue.ensures.issue;
            places = c.in_ok-check_places.ensures.judged.ready;
          });
    }
