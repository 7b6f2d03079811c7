use Rattle.calendar.proofs.Table.{carried}
use Rattle.calendar.proofs.months.entry.Goals as goal

pub returns : goal.returns
returns c = record { start = carried c.args.starts.now c.requires.from_day_0 c.requires.month_by_month c.args.month c.requires.in_table }
