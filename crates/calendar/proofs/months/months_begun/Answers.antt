use Rattle.std.proofs.Common.{rules, ◌≡◌, true, false, leb, slice_index_or, arith}
use Rattle.std.specs.List.Sorted.{IsPartitionPoint}
use Rattle.std.proofs.lemmas.Bool.{leb-true, leb-false}
use Rattle.std.proofs.lemmas.List.Sorted.{IsPartitionPoint-from_clause}
use Rattle.calendar.proofs.Table.{carried, split}
use Rattle.calendar.proofs.months.months_begun.Goals as goal

pub returns : goal.returns
returns c =
    let starts = c.args.starts.now in
    let day = c.args.day in
    let parted : IsPartitionPoint (λ n. leb n day ≡ true) (λ n. leb n day ≡ false) starts c.partition_point.result =
    IsPartitionPoint-from_clause (λ n. leb n day) _ _ c.partition_point.ensures.partitioned (split starts day c.requires.from_day_0 c.requires.month_by_month) (λ a r f' h. search rules) in
    record {
      begun = λ m lt. omega (arith, carried starts c.requires.from_day_0 c.requires.month_by_month m (omega (arith, lt, c.partition_point.ensures.bound)), leb-true (slice_index_or starts m 0) day (parted.0 m 0 (omega arith) lt));
      to_come = λ m le lt. omega (arith, carried starts c.requires.from_day_0 c.requires.month_by_month m lt, leb-false (slice_index_or starts m 0) day (parted.1 m 0 le lt));
    }
