-- What the definitions mean at a rising map, in a caller's words.
use Rattle.std.specs.Prelude.{◌≡◌, ℕ, ◌+◌, ◌<◌, ◌≤◌, Bool, true, false, cond, List, length, is_some, IfSome, is_ok, Some, Option, Result, MatchOption}
use Rattle.figures.specs.declared.names.Table.{Table}
use Rattle.range_map.specs.declared.entry.Entry.{Entry}
use Rattle.range_map.specs.declared.fault.MapFault.{MapFault}
use Rattle.range_map.specs.Plain.{within, at, payload_at, cut, lay, change, cuts_of, Between}
use Rattle.range_map.specs.Map.{entry_of, nth}
use Rattle.range_map.specs.Replies.{plain_lay, plain_change}
use Rattle.range_map.specs.Counts.{total, tally, runs}

-- r is an entry of m that covers n, or none does
abbrev pub Covering : {P : Type 0} → ℕ → List (Entry P) → Option (Entry P) → Type 0
Covering n m r =
    MatchOption r ((i : ℕ) → IfSome (nth i m) (λ e. within e.first e.last n ≡ false))
    (λ e. (within e.first e.last n ≡ true) × ((i : ℕ) × (nth i m ≡ Some e)))

-- r is the first of the positions f to l that an entry covers, or none of them is covered
abbrev pub FirstTaken : {P : Type 0} → ℕ → ℕ → List (Entry P) → Option ℕ → Type 0
FirstTaken f l m r =
    MatchOption r ((n : ℕ) → f ≤ n → n ≤ l → is_some (at n m) ≡ false)
    (λ k. (f ≤ k) × (k ≤ l) × (is_some (at k m) ≡ true) × ((n : ℕ) → f ≤ n → n < k → is_some (at n m) ≡ false))

-- r is the first of the positions f to l that no entry covers, or all of them are covered
abbrev pub FirstOpen : {P : Type 0} → ℕ → ℕ → List (Entry P) → Option ℕ → Type 0
FirstOpen f l m r =
    MatchOption r ((n : ℕ) → f ≤ n → n ≤ l → is_some (at n m) ≡ true)
    (λ k. (f ≤ k) × (k ≤ l) × (is_some (at k m) ≡ false) × ((n : ℕ) → f ≤ n → n < k → is_some (at n m) ≡ true))

-- a cut changes what no position has, and no sum of sizes
pub record CutLosesNothing {P : Type 0} (m : List (Entry P)) : Type 0 where
  pub positions : (n k : ℕ) → payload_at k (cut n m) ≡ payload_at k m
  pub totals : (n : ℕ) (t : P → Bool) → total t (cut n m) ≡ total t m

-- the sizes of the entries whose payload passes a test add up to how many positions have a payload that passes it
abbrev pub SizesCountPositions : {P : Type 0} → List (Entry P) → Type 0
SizesCountPositions {P} m = (t : P → Bool) (h : ℕ) → Between 0 h m → total t m ≡ tally t h m

-- runs of equal payload are at most n, however equality is tested
abbrev pub RunsAtMost : {P : Type 0} → ℕ → List (Entry P) → Type 0
RunsAtMost {P} n m = (same : P → P → Bool) → ((p : P) → same p p ≡ true) → (h : ℕ) → Between 0 h m → runs same h m ≤ n

-- what lay replies and leaves: m before, m' after
pub record PlainLay {P : Type 0} (t : Table) (slots f l : ℕ) (p : P) (m : List (Entry P)) (r : Result (Unit {0}) MapFault) (m' : List (Entry P)) : Type 0 where
  pub reply : r ≡ plain_lay t slots f l m
  pub entries : m' ≡ cond (is_ok r) (lay (entry_of f l p) m) m
  pub positions : is_ok r ≡ true → (n : ℕ) → payload_at n m' ≡ cond (within f l n) (Some p) (payload_at n m)
  pub grows : is_ok r ≡ true → length m' ≡ length m + 1

-- what change replies and leaves: m before, m' after
pub record PlainChange {P : Type 0} (t : Table) (slots f l : ℕ) (p : P) (m : List (Entry P)) (r : Result (Unit {0}) MapFault) (m' : List (Entry P)) : Type 0 where
  pub reply : r ≡ plain_change t slots f l m
  pub entries : m' ≡ cond (is_ok r) (change f l p m) m
  pub positions : is_ok r ≡ true → (n : ℕ) → payload_at n m' ≡ cond (within f l n) (Some p) (payload_at n m)
  pub grows : is_ok r ≡ true → length m' ≡ length m + cuts_of f l m

-- what repay leaves: the positions of the entry at index i have p, and every other position what it had
abbrev pub PlainRepay : {P : Type 0} → ℕ → P → List (Entry P) → List (Entry P) → Type 0
PlainRepay i p m m' =
    (n : ℕ) → MatchOption (nth i m) (payload_at n m' ≡ payload_at n m) (λ e. payload_at n m' ≡ cond (within e.first e.last n) (Some p) (payload_at n m))
