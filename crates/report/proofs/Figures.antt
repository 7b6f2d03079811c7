-- Laws of printed digits. Assumes nothing.
use Rattle.std.proofs.Common.{◌≡◌, ℕ, ◌+◌, ◌-◌, ◌/◌, ◌%◌, ◌<◌, ◌≤◌, List, [], ◌∷◌, ◌++◌, map, length, drop, set, sym, refl, ap, ◌∙◌, add-one, arith}
use Rattle.std.proofs.lemmas.List.{append_assoc, drop-set, length-map, map_push}
use Rattle.figures.specs.Digits.{written}
use Rattle.figures.proofs.Weights.{length_written}
use Rattle.report.specs.Digits.{digits}

pub length_digits : (k n : ℕ) → length (digits k n) ≡ k
unfolding digits
length_digits k n = length-map (written k n) (λ d. 48 + d) ∙ length_written k n

pub digits_none : (n : ℕ) → digits 0 n ≡ []
unfolding digits
digits_none n = refl

-- one digit more is the last, behind those of the number without it
pub digits_more : (k n : ℕ) → digits (k + 1) n ≡ digits k (n / 10) ++ ((48 + n % 10) ∷ [])
unfolding digits
digits_more k n = ap (λ j. map (λ d. 48 + d) (written j n)) (add-one k) ∙ map_push (λ d. 48 + d) (written k (n / 10)) (n % 10)

-- the digits from p + 1 on are in place, and one more at p
digit_at : (out : List ℕ) (rest p byte : ℕ) → p < length out → byte ≡ 48 + rest % 10 → digits p (rest / 10) ++ drop p (set out p byte) ≡ digits (p + 1) rest ++ drop (p + 1) out
digit_at out rest p byte within is =
    let here = drop-set out p byte within in
    let more = digits_more p rest in
    let joined = append_assoc (digits p (rest / 10)) ((48 + rest % 10) ∷ []) (drop (p + 1) out) in
    cc

pub digit_next : (out : List ℕ) (rest place byte : ℕ) → 0 < place → place ≤ length out → byte ≡ 48 + rest % 10 → digits (place - 1) (rest / 10) ++ drop (place - 1) (set out (place - 1) byte) ≡ digits place rest ++ drop place out
digit_next out rest place byte some within is =
    let back : place - 1 + 1 ≡ place = omega arith in
    digit_at out rest (place - 1) byte (omega arith) is ∙ ap (λ p. digits p rest ++ drop p out) back

-- all are in place
pub digits_end : (out : List ℕ) (rest place : ℕ) → place ≤ 0 → out ≡ digits place rest ++ drop place out
digits_end out rest place none =
    let at_start : 0 ≡ place = omega arith in
    ap (λ xs. xs ++ out) (sym (digits_none rest)) ∙ ap (λ p. digits p rest ++ drop p out) at_start
