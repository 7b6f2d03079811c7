use Rattle.range_map.proofs.Counting.{runs_entries, total_tally}
use Rattle.range_map.proofs.map.RangeMap.entries.Goals as goal

pub returns : goal.returns
returns g c = record {
  as_they_lie = c.entries.ensures;
  sizes_count_positions = λ t h w. total_tally t 0 h _ w;
  runs_at_most = λ same whole h w. runs_entries same whole 0 h _ w;
}
