-- Counting positions: what sizes of entries and runs of equal payload are measured against.
use Rattle.std.specs.Prelude.{ℕ, zero, suc, ◌+◌, ◌-◌, Bool, true, false, cond, not, List, [], ◌∷◌, Some, None, Option}
use Rattle.range_map.specs.declared.entry.Entry.{Entry}
use Rattle.range_map.specs.Plain.{payload_at}

abbrev pub bit : Bool → ℕ
bit b = cond b 1 0

-- g 0 + .. + g (n - 1)
unfoldable pub sum_below : (ℕ → ℕ) → ℕ → ℕ
sum_below g zero = 0
sum_below g (suc n) = g n + sum_below g n

-- how many of the numbers below n pass
abbrev pub how_many : (ℕ → Bool) → ℕ → ℕ
how_many p n = sum_below (λ k. bit (p k)) n

-- how many positions an entry has
abbrev pub size : {P : Type 0} → Entry P → ℕ
size e = e.last - e.first + 1

-- the sizes of the entries whose payload passes the test, added up
unfoldable pub total : {P : Type 0} → (P → Bool) → List (Entry P) → ℕ
total t [] = 0
total t (e ∷ m) = cond (t e.payload) (size e) 0 + total t m

-- a payload is there, and passes
abbrev pub passes : {P : Type 0} → (P → Bool) → Option P → Bool
passes t None = false
passes t (Some p) = t p

-- how many positions below h have a payload that passes the test
unfoldable pub tally : {P : Type 0} → (P → Bool) → ℕ → List (Entry P) → ℕ
tally t h m = how_many (λ n. passes t (payload_at n m)) h

-- a run of equal payload begins where the position before has none, or another
abbrev pub begins : {P : Type 0} → (P → P → Bool) → Option P → Option P → Bool
begins same before None = false
begins same None (Some p) = true
begins same (Some q) (Some p) = not (same q p)

-- what the position before n has
abbrev pub before : {P : Type 0} → ℕ → List (Entry P) → Option P
before zero m = None
before (suc n) m = payload_at n m

-- how many runs of equal payload begin below h
unfoldable pub runs : {P : Type 0} → (P → P → Bool) → ℕ → List (Entry P) → ℕ
runs same h m = how_many (λ n. begins same (before n m) (payload_at n m)) h
