-- The checks of a declaration, as the code takes them. Assumes nothing.
use Rattle.std.proofs.Common.{◌≡◌, List, ◌++◌, Some, None, Option, subst}
use Rattle.order_file.specs.Checked.{plain_declaration}
use Rattle.order_file.specs.Checks.{bad_declare}
use Rattle.order_file.specs.declared.checked.Declaration.{Declaration}
use Rattle.order_file.specs.declared.orders.Declare.{Declare}
use Rattle.register.specs.Checks.{bad_at, account_known, device_known, declaration_checks}
use Rattle.register.specs.Faults.{first_fault}
use Rattle.register.specs.Issues.{day_checks, free_checks, issue_of, slot_checks}
use Rattle.register.specs.State.{State}
use Rattle.register.specs.declared.faults.Fault.{Fault}
use Rattle.register.specs.declared.issues.Issue.{Issue}
use Rattle.register.proofs.Verdicts.{Reaches, pass, stop_in, pass_all}

module _ (o : Declare) (d : Declaration) (s : State) (checked : plain_declaration d ≡ o) where
  abbrev places : Issue → List (Option Fault)
  places i = free_checks i s.periods s.origins s.standings ++ slot_checks i s.periods s.origins s.standings

  -- the checks up to the days, passed
  to_days : {v : Option Fault} → None ≡ bad_at (bad_declare o) → None ≡ device_known d.device.digits s → None ≡ account_known d.account s → Reaches v (day_checks s.date d.days.last ++ places (issue_of (plain_declaration d) s)) → Reaches v (declaration_checks o s)
  to_days {v} operands device account rest =
      subst (λ x. None ≡ bad_at (bad_declare x) → Reaches v (declaration_checks x s)) checked
      (λ lawful. pass lawful (pass device (pass account rest))) operands

  pub days_refused : {f : Fault} → None ≡ bad_at (bad_declare o) → None ≡ device_known d.device.digits s → None ≡ account_known d.account s → Some f ≡ first_fault (day_checks s.date d.days.last) → Reaches (Some f) (declaration_checks o s)
  days_refused operands device account days = to_days operands device account (stop_in (day_checks s.date d.days.last) (places (issue_of (plain_declaration d) s)) days)

  -- and the days too
  pub to_places : {v : Option Fault} (i : Issue) → i ≡ issue_of (plain_declaration d) s → None ≡ bad_at (bad_declare o) → None ≡ device_known d.device.digits s → None ≡ account_known d.account s → None ≡ first_fault (day_checks s.date d.days.last) → Reaches v (places i) → Reaches v (declaration_checks o s)
  to_places {v} i same operands device account days rest =
      to_days operands device account (pass_all (day_checks s.date d.days.last) (places (issue_of (plain_declaration d) s)) days (subst (λ x. Reaches v (places x)) same rest))

  pub issue_of_lem : (i : Issue) → i ≡ issue_of (plain_declaration d) s → i ≡ issue_of o s
  issue_of_lem i same = subst (λ x. i ≡ issue_of x s) checked same
