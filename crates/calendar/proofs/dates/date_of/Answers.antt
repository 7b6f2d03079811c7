use Rattle.std.proofs.Common.{sym, ap, ◌∙◌}
use Rattle.calendar.specs.Dates.{date_of}
use Rattle.calendar.proofs.Counting.{date_in_month}
use Rattle.calendar.proofs.dates.date_of.Goals as goal

pub returns : goal.returns
returns c =
    let at = c.in_month-month.ensures in
    record { date = sym (date_in_month c.in_month-month.result.0 c.in_month-month.result.1 at.inside) ∙ ap date_of (at.day ∙ c.min.ensures) }
