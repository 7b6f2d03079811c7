-- What is found before the end of a file, and past it. Assumes nothing.
use Rattle.std.proofs.Common.{◌≡◌, ℕ, ◌+◌, ◌<◌, ◌≤◌, ltb, Bool, true, false, cond, List, length, drop, Some, None, Ok, Err, Result, sym, refl, ap, arith, length-drop}
use Rattle.std.proofs.lemmas.Bool.{le-ltb, ltb-true, cond-false}
use Rattle.order_file.proofs.Reading.{order_shorter}
use Rattle.order_file.specs.Reading.{read_order}
use Rattle.order_file.specs.declared.faults.ReadFault.{ReadFault}
use Rattle.order_file.specs.declared.orders.Order.{Order}
use Rattle.inspection.specs.Findings.{as_read, found}
use Rattle.inspection.specs.declared.findings.Finding.{Finding}

pub found_past : (file : List ℕ) (place : ℕ) → length file ≤ place → None ≡ found file place
found_past file place past = sym (cond-false (ltb place (length file)) _ _ (le-ltb place (length file) past))

read_onward : (bytes : List ℕ) (place size : ℕ) (r : Result (Order × List ℕ) ReadFault) → read_order bytes place ≡ r → size ≡ place + length bytes → place < size → place < (as_read size r).next
read_onward bytes place size (Ok read) h all some = omega (arith, order_shorter bytes place read h)
read_onward bytes place size (Err fault) h all some = some

cond_some : (b : Bool) (x finding : Finding) → cond b (Some x) None ≡ Some finding → (b ≡ true) × (x ≡ finding)
cond_some true x finding h = (refl, cc)
cond_some false x finding h = absurd (cc)

-- what is found lies before the end, and the next place behind it
pub found_onward : (file : List ℕ) (place : ℕ) (finding : Finding) → found file place ≡ Some finding → (place < length file) × (place < finding.next)
found_onward file place finding h =
    let parts = cond_some (ltb place (length file)) _ finding h in
    let within : place < length file = ltb-true place (length file) parts.0 in
    let onward = read_onward (drop place file) place (length file) (read_order (drop place file) place) refl (omega (arith, length-drop place file)) within in
    (within, omega (arith, ap (λ f. f.next) parts.1, onward))
