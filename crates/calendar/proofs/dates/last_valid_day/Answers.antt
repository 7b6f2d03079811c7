use Rattle.std.proofs.Common.{◌≡◌, ◌+◌, ◌-◌, min, sym, ap, ◌∙◌, arith}
use Rattle.calendar.specs.Dates.{date_of, month_start, twelve_months_on, last_valid_day}
use Rattle.calendar.proofs.Counting.{length_of, month_start_small, last_valid_in_month, last_valid_date}
use Rattle.calendar.proofs.dates.last_valid_day.Goals as goal

pub overflow_add-result : goal.overflow_add-result
overflow_add-result c = omega (arith, month_start_small c.month_later-later.result)

pub returns : goal.returns
returns c =
    let k = c.in_month-month.result.0 in
    let j = c.in_month-month.result.1 in
    let at = c.in_month-month.ensures in
    let day = at.day ∙ c.min.ensures in
    let later = c.month_later-later.ensures.later in
    let start = c.month_start.ensures.start ∙ ap month_start later in
    let days = c.clamped.ensures.inside ∙ ap (λ n. min j (n - 1)) (c.month_length.ensures.length ∙ ap length_of later) in
    let found : c.month_start.result + c.clamped.result ≡ month_start (k + 12) + min j (length_of (k + 12) - 1) = λ i. start i + days i in
    record {
      value = found ∙ sym (last_valid_in_month k j at.inside) ∙ ap last_valid_day day;
      date = ap date_of found ∙ last_valid_date k j at.inside ∙ ap (λ n. twelve_months_on (date_of n)) day;
    }
