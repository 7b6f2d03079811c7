-- Sums and counts over the numbers below a bound. Assumes nothing.
use Rattle.std.proofs.Common.{◌≡◌, ℕ, zero, suc, ◌+◌, ◌-◌, ◌<◌, ◌≤◌, Bool, false, cond, eqb, ltb, refl, ap, ◌∙◌, zero-add, arith}
use Rattle.std.proofs.lemmas.Bool.Decides.{nat_tests}
use Rattle.range_map.specs.Plain.{within}
use Rattle.range_map.specs.Counts.{bit, sum_below, how_many}

pub sum_none : (n : ℕ) → sum_below (λ _. 0) n ≡ 0
unfolding sum_below
sum_none zero = refl
sum_none (suc n) = zero-add _ ∙ sum_none n

pub sum_same : (f g : ℕ → ℕ) (n : ℕ) → ((k : ℕ) → k < n → f k ≡ g k) → sum_below f n ≡ sum_below g n
unfolding sum_below
sum_same f g zero same = refl
sum_same f g (suc n) same = omega (arith, same n (omega arith), sum_same f g n (λ k lt. same k (omega arith)))

pub sum_le : (f g : ℕ → ℕ) (n : ℕ) → ((k : ℕ) → k < n → f k ≤ g k) → sum_below f n ≤ sum_below g n
unfolding sum_below
sum_le f g zero le = omega arith
sum_le f g (suc n) le = omega (arith, le n (omega arith), sum_le f g n (λ k lt. le k (omega arith)))

pub sum_add : (f g : ℕ → ℕ) (n : ℕ) → sum_below (λ k. f k + g k) n ≡ sum_below f n + sum_below g n
unfolding sum_below
sum_add f g zero = refl
sum_add f g (suc n) = omega (arith, sum_add f g n)

-- a count that is split in two at every number is the sum of two counts
pub how_many_split : (p q r : ℕ → Bool) (n : ℕ) → ((k : ℕ) → k < n → bit (p k) ≡ bit (q k) + bit (r k)) → how_many p n ≡ how_many q n + how_many r n
how_many_split p q r n parts = sum_same (λ k. bit (p k)) (λ k. bit (q k) + bit (r k)) n parts ∙ sum_add (λ k. bit (q k)) (λ k. bit (r k)) n

pub how_many_same : (p q : ℕ → Bool) (n : ℕ) → ((k : ℕ) → k < n → p k ≡ q k) → how_many p n ≡ how_many q n
how_many_same p q n same = sum_same (λ k. bit (p k)) (λ k. bit (q k)) n (λ k lt. ap bit (same k lt))

pub how_many_none : (n : ℕ) → how_many (λ _. false) n ≡ 0
how_many_none n = sum_none n

-- how many numbers of a range lie below n
below_range : (f l n : ℕ) → how_many (within f l) n ≡ cond (ltb l n) (l + 1 - f) (n - f)
unfolding sum_below
below_range f l zero = grind (arith, nat_tests)
below_range f l (suc n) = let i = below_range f l n in grind (arith, nat_tests)

pub how_many_range : (f l n : ℕ) → f ≤ l → l < n → how_many (within f l) n ≡ l - f + 1
how_many_range f l n le lt = let i = below_range f l n in grind (arith, nat_tests)

at_once : (a n : ℕ) → how_many (λ k. eqb k a) n ≡ bit (ltb a n)
unfolding sum_below
at_once a zero = grind (arith, nat_tests)
at_once a (suc n) = let i = at_once a n in grind (arith, nat_tests)

-- at most one number is a given one
pub how_many_one : (a n : ℕ) → how_many (λ k. eqb k a) n ≤ 1
how_many_one a n = let i = at_once a n in grind (arith, nat_tests)
