use Rattle.std.proofs.Common.{Result, sym, ap, ◌∙◌}
use Rattle.std.proofs.lemmas.Result.{err_from_is_err_and}
use Rattle.figures.specs.declared.names.Table.TheVariants.{Standings}
use Rattle.range_map.specs.Map.{change_answer, in_use, slots_of}
use Rattle.register.specs.Checks.{not_held_at}
use Rattle.register.specs.Holdings.{unheld}
use Rattle.register.proofs.Offering.{held_covered, not_held_none, good_numbers, change_full, change_fits}
use Rattle.register.proofs.Verdicts.{end, stop, pass, judged_err, judged_ok}
use Rattle.register.proofs.numbers.check_numbers.Goals as goal

pub returns-in_err-check_held : goal.returns-in_err-check_held
returns-in_err-check_held c =
    let p = err_from_is_err_and c.from_residual.result c.from_residual.ensures.1 in
    let span = c.span_of-range.ensures in
    let m = in_use c.args.standings.now in
    record { judged = judged_err (p.1 ∙ ap Result.Err p.2) (stop (c.in_err-check_held.ensures.verdict ∙ (λ i. not_held_at (unheld c.args.account (span.first i) (span.last i) m)))) }

pub returns-in_err-check_row : goal.returns-in_err-check_row
returns-in_err-check_row c =
    let p = err_from_is_err_and c.from_residual-in_err-check_row.result c.from_residual-in_err-check_row.ensures.1 in
    let span = c.span_of-range.ensures in
    let m = in_use c.args.standings.now in
    record { judged = judged_err (p.1 ∙ ap Result.Err p.2) (pass (c.in_ok-check_held.ensures.verdict ∙ (λ i. not_held_at (unheld c.args.account (span.first i) (span.last i) m))) (stop c.in_err-check_row.ensures.verdict)) }

pub returns-in_err-check_change : goal.returns-in_err-check_change
returns-in_err-check_change c =
    let p = err_from_is_err_and c.from_residual-in_err-check_change.result c.from_residual-in_err-check_change.ensures.1 in
    let span = c.span_of-range.ensures in
    let f = c.args.numbers.first.0 in
    let l = c.args.numbers.last.0 in
    let m = in_use c.args.standings.now in
    let slots = slots_of c.args.standings.now in
    let held = c.in_ok-check_held.ensures.verdict ∙ (λ i. not_held_at (unheld c.args.account (span.first i) (span.last i) m)) in
    let reply = c.check_change.ensures.reply ∙ (λ i. change_answer Standings slots (span.first i) (span.last i) m) in
    let covered = held_covered c.args.account f l m (not_held_none _ held) in
    let good = good_numbers f l c.args.numbers.rising c.args.numbers.within in
    record {
      judged = judged_err (p.1 ∙ ap Result.Err p.2)
          (pass held (pass c.in_ok-check_row.ensures.verdict
          (stop (change_full slots f l m c.check_change.result reply good covered c.in_err-check_change.field-0.0 c.in_err-check_change.was))));
    }

pub returns : goal.returns
returns c =
    let span = c.span_of-range.ensures in
    let f = c.args.numbers.first.0 in
    let l = c.args.numbers.last.0 in
    let m = in_use c.args.standings.now in
    let slots = slots_of c.args.standings.now in
    let held = c.in_ok-check_held.ensures.verdict ∙ (λ i. not_held_at (unheld c.args.account (span.first i) (span.last i) m)) in
    let reply = c.check_change.ensures.reply ∙ (λ i. change_answer Standings slots (span.first i) (span.last i) m) in
    let covered = held_covered c.args.account f l m (not_held_none _ held) in
    let good = good_numbers f l c.args.numbers.rising c.args.numbers.within in
    record {
      judged = judged_ok tt
          (pass held (pass c.in_ok-check_row.ensures.verdict
          (pass (change_fits slots f l m c.check_change.result reply good covered c.in_ok-check_change.was) end)))
          (record { free_row = c.in_ok-check_row.ensures.free; few = c.in_ok-check_row.ensures.few; change_fits = sym reply ∙ c.in_ok-check_change.was });
    }
