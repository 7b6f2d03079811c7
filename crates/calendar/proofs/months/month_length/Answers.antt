use Rattle.std.proofs.Common.{arith}
use Rattle.calendar.proofs.Counting.{year_of, month_of, month_bounds, month_start_suc}
use Rattle.calendar.proofs.months.month_length.Goals as goal

pub overflow_sub-result : goal.overflow_sub-result
overflow_sub-result c = omega (arith, month_start_suc c.args.month)

pub returns : goal.returns
returns c =
    let m = c.args.month in
    record {
      length = omega (arith, month_start_suc m);
      some = omega (arith, month_start_suc m, month_bounds (year_of m) (month_of m));
    }
