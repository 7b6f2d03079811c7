use Rattle.std.proofs.Common.{true, Result, ap, ◌∙◌}
use Rattle.std.proofs.lemmas.Result.{err_from_is_err_and}
use Rattle.register.specs.Settled.{state_of}
use Rattle.register.proofs.Offering.{to_receiver, to_numbers}
use Rattle.register.proofs.Verdicts.{stop, known_rest, judged_err, judged_ok, ok_fault, ok_operand}
use Rattle.register.proofs.day.OpenDay.judge_offer.Goals as goal

pub returns-in_err-check_member-2 : goal.returns-in_err-check_member-2
returns-in_err-check_member-2 g c =
    let s = state_of true c.args.self.now.figures (g.AccountBook.Book.meaning c.args.register.now.accounts) (g.DeviceBook.Book.meaning c.args.register.now.devices) c.args.register.now.tables in
    let p = err_from_is_err_and c.from_residual-in_err-check_member-2.result c.from_residual-in_err-check_member-2.ensures.1 in
    record {
      judged = judged_err (p.1 ∙ ap Result.Err p.2)
          (to_receiver c.args.order c.in_ok-terms.terms s c.in_ok-terms.ensures.checked
          (ok_operand c.in_ok-terms.was c.check.ensures.refused_at)
          (ok_fault c.in_ok-check_parties.was c.check_parties.ensures.verdict)
          (ok_fault c.in_ok-check_member.was c.check_member.ensures.verdict)
          (stop c.in_err-check_member-2.ensures.verdict));
    }

pub returns-in_err-check_numbers : goal.returns-in_err-check_numbers
returns-in_err-check_numbers g c =
    let s = state_of true c.args.self.now.figures (g.AccountBook.Book.meaning c.args.register.now.accounts) (g.DeviceBook.Book.meaning c.args.register.now.devices) c.args.register.now.tables in
    let p = err_from_is_err_and c.from_residual-in_err-check_numbers.result c.from_residual-in_err-check_numbers.ensures.1 in
    record {
      judged = judged_err (p.1 ∙ ap Result.Err p.2)
          (to_numbers c.args.order c.in_ok-terms.terms s c.in_ok-terms.ensures.checked
          (ok_operand c.in_ok-terms.was c.check.ensures.refused_at)
          (ok_fault c.in_ok-check_parties.was c.check_parties.ensures.verdict)
          (ok_fault c.in_ok-check_member.was c.check_member.ensures.verdict)
          (ok_fault c.in_ok-check_member-2.was c.check_member-2.ensures.verdict)
          (known_rest c.in_err-check_numbers.ensures.judged.verdict));
    }

pub returns : goal.returns
returns g c =
    let s = state_of true c.args.self.now.figures (g.AccountBook.Book.meaning c.args.register.now.accounts) (g.DeviceBook.Book.meaning c.args.register.now.devices) c.args.register.now.tables in
    record {
      judged = judged_ok c.in_ok-terms.terms
          (to_numbers c.args.order c.in_ok-terms.terms s c.in_ok-terms.ensures.checked
          (ok_operand c.in_ok-terms.was c.check.ensures.refused_at)
          (ok_fault c.in_ok-check_parties.was c.check_parties.ensures.verdict)
          (ok_fault c.in_ok-check_member.was c.check_member.ensures.verdict)
          (ok_fault c.in_ok-check_member-2.was c.check_member-2.ensures.verdict)
          (known_rest c.in_ok-check_numbers.ensures.judged.verdict))
          (c.in_ok-terms.ensures.checked, c.in_ok-check_numbers.ensures.judged.ready);
    }
