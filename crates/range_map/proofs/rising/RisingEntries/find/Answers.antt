use Rattle.std.proofs.Common.{◌^◌, ltb, sym, ◌∙◌, rules}
use Rattle.std.proofs.lemmas.List.Sorted.{IsPartitionPoint-from_clause, IsPartitionedBy-ltb}
use Rattle.range_map.specs.declared.entry.Entry.{Entry}
use Rattle.range_map.proofs.Joining.{lasts_rise, place_skipped, point_skipped}
use Rattle.range_map.proofs.rising.RisingEntries.find.Goals as goal

pub returns-clause-place : goal.returns-clause-place
returns-clause-place g c =
    let m = c.args.self.now.entries.now in
    let n = c.args.position in
    let rise = IsPartitionedBy-ltb (λ (e : Entry g.row.P.Denot). e.last) m n (lasts_rise 0 (2 ^ 62) m c.args.self.now.rising) in
    let point = IsPartitionPoint-from_clause (λ (e : Entry g.row.P.Denot). ltb e.last n) m _ c.partition_point.ensures.partitioned rise (λ a r q k. search rules) in
    point_skipped n m _ c.partition_point.ensures.bound point ∙ sym (place_skipped n 0 (2 ^ 62) m c.args.self.now.rising)
