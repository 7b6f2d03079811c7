use Rattle.std.proofs.Common.{arith}
use Rattle.calendar.proofs.Counting.{year_of, month_of, month_bounds, month_start_suc}
use Rattle.calendar.proofs.months.in_month.Goals as goal

pub returns : goal.returns
returns c =
    let m = c.month_of-month.result in
    record {
      day = omega arith;
      inside = omega (arith, month_start_suc m);
      few = omega (arith, month_start_suc m, month_bounds (year_of m) (month_of m));
      working = omega arith;
    }
