use Rattle.std.proofs.Common.{◌-◌, ◌+◌, arith}
use Rattle.calendar.proofs.Table.{one_begun, few_begun}
use Rattle.calendar.proofs.months.month_of.Goals as goal

pub overflow_sub-result : goal.overflow_sub-result
overflow_sub-result c = one_begun c.months_begun.result c.args.day c.months_begun.ensures.to_come

pub returns : goal.returns
returns c =
    let begun = c.months_begun.result in
    let some = one_begun begun c.args.day c.months_begun.ensures.to_come in
    let few = few_begun begun c.args.day c.requires.working c.months_begun.ensures.begun in
    record {
      begun = c.months_begun.ensures.begun (begun - 1) (omega (arith, some));
      not_over = c.months_begun.ensures.to_come (begun - 1 + 1) (omega (arith, some)) (omega (arith, few));
      working = omega (arith, few);
    }
