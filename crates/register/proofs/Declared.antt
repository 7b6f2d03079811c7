-- How a declaration settles. Assumes nothing.
use Rattle.std.proofs.Common.{◌≡◌, ℕ, ◌+◌, min, Bool, true, cond, ltb, List, [], ◌∷◌, None, Ok, refl, ap, ◌∙◌, arith}
use Rattle.std.proofs.lemmas.Bool.{cond-true}
use Rattle.figures.specs.Limits.{most_total}
use Rattle.figures.specs.declared.accounts.Account.{Account}
use Rattle.figures.specs.declared.energy.CertificateNumber.{CertificateNumber}
use Rattle.books.specs.Changes.{posted}
use Rattle.books.specs.Faults.{write_after}
use Rattle.books.specs.Ledger.{Ledger, Member, changed, total, written_in}
use Rattle.books.specs.declared.changes.Change.TheVariants.{Up}
use Rattle.order_file.specs.Checked.{plain_declaration}
use Rattle.order_file.specs.declared.checked.Declaration.{Declaration}
use Rattle.order_file.specs.declared.orders.Declare.{Declare}
use Rattle.register.specs.Bookings.{declaration, entry, lay_into}
use Rattle.register.specs.Checks.{declaration_checks, device_totals, left, wanted}
use Rattle.register.specs.Faults.{first_fault}
use Rattle.register.specs.Issues.{issue_of, issuing, origin_of, period_of}
use Rattle.register.specs.Runs.{settled}
use Rattle.register.specs.Settled.{Settles, answer_of, issued_count, map_of, state_of}
use Rattle.register.specs.State.{State, account_from, is_account, is_device, has_device}
use Rattle.register.specs.declared.day.DayFigures.{DayFigures}
use Rattle.register.specs.declared.issues.Issue.{Issue}
use Rattle.register.specs.declared.rows.Standing.TheVariants.{Held}
use Rattle.register.specs.declared.tables.Tables.{Tables}
use Rattle.register.proofs.Verdicts.{all_pass, passed}

-- a total that is read as its limit is written as what it was
total_once : (x : ℕ) → total (min x most_total) ≡ total x
total_once x = omega arith

written_once : {P : Type 0} (is : P → Bool) (f x : ℕ) (ms : List (Member P)) → changed is (λ _. f) (λ _. min x most_total) ms ≡ changed is (λ _. f) (λ _. x) ms
written_once is f x [] = refl
written_once is f x (m ∷ ms) = let later = written_once is f x ms in λ k. cond (is m.key) (record { key = m.key; first = total f; second = total_once x k } ∷ ms) (m ∷ later k)

module _ (o : Declare) (d : Declaration) (i : Issue) (day : DayFigures) (last : CertificateNumber) (accounts accounts' : Ledger Account) (devices devices' : Ledger ℕ) (tables tables' : Tables) where
  abbrev before : State
  before = state_of true day accounts devices tables

  module _
      (none : None ≡ first_fault (declaration_checks o before))
      (operands : plain_declaration d ≡ o)
      (issue : i ≡ issue_of o before)
      (periods : map_of tables'.periods ≡ lay_into (entry i.period.first i.period.last (period_of (plain_declaration d))) (map_of tables.periods))
      (origins : map_of tables'.origins ≡ cond (issuing i) (lay_into (entry i.first.0 i.last.0 (origin_of (plain_declaration d))) (map_of tables.origins)) (map_of tables.origins))
      (standings : map_of tables'.standings ≡ cond (issuing i) (lay_into (entry i.first.0 i.last.0 (Held d.account)) (map_of tables.standings)) (map_of tables.standings))
      (offers : tables'.offers.now ≡ tables.offers.now)
      (cancellations : tables'.cancellations.now ≡ tables.cancellations.now)
      (credited : accounts' ≡ cond (ltb 0 i.count.0) (posted (is_account d.account) (Up i.count.0) (Up 0) accounts) accounts)
      (written : devices' ≡ write_after (is_device d.device.digits) i.left.0 i.issued devices)
      (last_is : last.0 ≡ cond (issuing i) i.last.0 day.last_number.0)
    where
      known : has_device o.device before ≡ true
      known = passed _ _ (all_pass (declaration_checks o before) none).1.0

      devices_after : devices' ≡ written_in (is_device o.device) (left o before) ((device_totals o.device before).1 + wanted o before) devices
      devices_after =
          written
          ∙ (λ k. write_after (is_device (operands k).device) (issue k).left.0 (issue k).issued devices)
          ∙ cond-true _ _ _ known
          ∙ (λ k. record { capacity = devices.capacity; members = written_once (is_device o.device) (left o before) ((device_totals o.device before).1 + wanted o before) devices.members k })

      booked : state_of true (record { date = day.date; last_number = last; offers = day.offers; cancellations = day.cancellations }) accounts' devices' tables' ≡ declaration o before
      booked =
          let periods_after = periods ∙ (λ k. lay_into (entry (issue k).period.first (issue k).period.last (period_of (operands k))) (map_of tables.periods)) in
          let origins_after = origins ∙ (λ k. cond (issuing (issue k)) (lay_into (entry (issue k).first.0 (issue k).last.0 (origin_of (operands k))) (map_of tables.origins)) (map_of tables.origins)) in
          let standings_after = standings ∙ (λ k. cond (issuing (issue k)) (lay_into (entry (issue k).first.0 (issue k).last.0 (Held (account_from (operands k).account))) (map_of tables.standings)) (map_of tables.standings)) in
          let accounts_after = credited ∙ (λ k. cond (ltb 0 (issue k).count.0) (posted (is_account (account_from (operands k).account)) (Up (issue k).count.0) (Up 0) accounts) accounts) in
          let last_after = last_is ∙ (λ k. cond (issuing (issue k)) (issue k).last.0 day.last_number.0) in
          λ k. record { opened = true; date = day.date; last = last_after k; offered = day.offers; cancelled = day.cancellations; accounts = accounts_after k; devices = devices_after k; periods = periods_after k; origins = origins_after k; standings = standings_after k; offers = offers k; cancellations = cancellations k }

      pub declared : Settles (declaration_checks o) (issued_count o) (declaration o) before (Ok i.count) (state_of true (record { date = day.date; last_number = last; offers = day.offers; cancellations = day.cancellations }) accounts' devices' tables')
      declared = record {
        answer = (λ k. Ok (issue k).count) ∙ ap (λ x. answer_of x (issued_count o before)) none;
        state = booked ∙ ap (λ x. settled x (declaration o before) before) none;
      }
