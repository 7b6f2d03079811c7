-- What is left behind an order. Assumes nothing.
use Rattle.std.proofs.Common.{◌≡◌, ℕ, ◌<◌, ◌≤◌, ltb, Bool, true, false, cond, List, [], ◌∷◌, length, get_or, take, drop, Some, None, Ok, Err, Option, ap, ◌∙◌, arith, length-drop}
use Rattle.std.proofs.lemmas.Bool.{le-ltb, lt-ltb, cond-true, cond-false}
use Rattle.std.specs.Option.{MatchOption, ok_or}
use Rattle.order_file.specs.Commands.{kind_of, width_of}
use Rattle.order_file.specs.Layouts.{order_of}
use Rattle.order_file.specs.Reading.{read_operands, read_order}
use Rattle.order_file.specs.declared.faults.ReadFault.{ReadFault}
use Rattle.order_file.specs.declared.faults.ReadFault.TheVariants.{CutShort}
use Rattle.order_file.specs.declared.kinds.Kind.{Kind}
use Rattle.order_file.specs.declared.orders.Order.{Order}

cond_ok : (b : Bool) (fault : ReadFault) (whole read : Order × List ℕ) → cond b (Err fault) (Ok whole) ≡ Ok read → whole ≡ read
cond_ok true fault whole read h = absurd (cc)
cond_ok false fault whole read h = cc

operands_shorter : (kind : Option Kind) (rest : List ℕ) (place : ℕ) (read : Order × List ℕ) → read_operands kind rest place ≡ Ok read → length read.1 ≤ length rest
operands_shorter None rest place read h = absurd (cc)
operands_shorter (Some kind) rest place read h =
    let is = cond_ok (ltb (length rest) (width_of kind)) _ _ read h in
    let behind : drop (width_of kind) rest ≡ read.1 = ap (λ r. r.1) is in
    omega (arith, ap length behind, length-drop (width_of kind) rest)

-- an order takes its command byte at least
pub order_shorter : (bytes : List ℕ) (place : ℕ) (read : Order × List ℕ) → read_order bytes place ≡ Ok read → length read.1 < length bytes
order_shorter [] place read h = absurd (cc)
order_shorter (command ∷ rest) place read h = omega (arith, operands_shorter (kind_of command) rest place read h)

-- a known command without all its operands
cut : (bytes : List ℕ) (place : ℕ) (kind : Kind) → 0 < length bytes → kind_of (get_or bytes 0 0) ≡ Some kind → length (drop 1 bytes) < width_of kind → read_order bytes place ≡ Err (CutShort place)
cut [] place kind some known short = absurd (omega arith)
cut (command ∷ rest) place kind some known short =
    let read = ap (λ k. read_operands k rest place) known ∙ cond-true (ltb (length rest) (width_of kind)) _ _ (lt-ltb (length rest) (width_of kind) short) in
    cc

-- a known command with all its operands
reads : (bytes : List ℕ) (place : ℕ) (kind : Kind) (order : Order) (after : List ℕ) → 0 < length bytes → kind_of (get_or bytes 0 0) ≡ Some kind → width_of kind ≤ length (drop 1 bytes) → order ≡ order_of kind (take (width_of kind) (drop 1 bytes)) → after ≡ drop (width_of kind) (drop 1 bytes) → read_order bytes place ≡ Ok (order, after)
reads [] place kind order after some known whole so behind = absurd (omega arith)
reads (command ∷ rest) place kind order after some known whole so behind =
    let read = ap (λ k. read_operands k rest place) known ∙ cond-false (ltb (length rest) (width_of kind)) _ _ (le-ltb (length rest) (width_of kind) whole) in
    cc

-- a known command: what follows it is split, or it is cut short
pub splits : {A : Type 0} (now : A → List ℕ) (bytes rest : List ℕ) (place : ℕ) (kind : Kind) (split : Option (Order × A)) → 0 < length bytes → kind_of (get_or bytes 0 0) ≡ Some kind → rest ≡ drop 1 bytes → MatchOption split (length rest < width_of kind) (λ read. (width_of kind ≤ length rest) × (read.0 ≡ order_of kind (take (width_of kind) rest)) × (now read.1 ≡ drop (width_of kind) rest)) → elim (ok_or split (CutShort place)) as (λ told. Type 0) [ Ok read ↦ read_order bytes place ≡ Ok (read.0, now read.1) | Err fault ↦ read_order bytes place ≡ Err fault ]
splits now bytes rest place kind None some known behind short =
    cut bytes place kind some known (omega (arith, short, ap length behind))
splits now bytes rest place kind (Some read) some known behind parts =
    reads bytes place kind _ _ some known (omega (arith, parts.0, ap length behind)) (parts.1 ∙ ap (λ r. order_of kind (take (width_of kind) r)) behind) (parts.2 ∙ ap (drop (width_of kind)) behind)
