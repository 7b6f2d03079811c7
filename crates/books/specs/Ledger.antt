-- What a book means: a capacity, and its members in the order in which they joined. Assumes nothing.
use Rattle.std.specs.Prelude.{ℕ, ◌+◌, min, Bool, true, false, cond, not, ◌&&◌, List, [], ◌∷◌, ◌++◌, length, Some, None, Option, nat_lt}
use Rattle.std.specs.Ordering.{is_eq}
use Rattle.std.specs.declared.cmp.Ordering.{Ordering}
use Rattle.figures.specs.Limits.{most_total, most_members}

-- A member: its key, and its two totals. Its running number is its place, counted from 1.
pub record Member (P : Type 0) : Type 0 where
  pub key : P
  pub first : ℕ
  pub second : ℕ

pub record Ledger (P : Type 0) : Type 0 where
  pub capacity : ℕ
  pub members : List (Member P)

-- A comparison that answers Equal
abbrev pub is_equal : Ordering → Bool
is_equal = is_eq

-- the test whether a key is k
abbrev pub matches : {P : Type 0} → (P → P → Ordering) → P → P → Bool
matches order k other = is_equal (order k other)

-- The questions: `is` is the test for the key asked for.
abbrev pub present : {P : Type 0} → (P → Bool) → List (Member P) → Bool
present is [] = false
present is (m ∷ ms) = cond (is m.key) true (present is ms)

-- the running number, where the first of these members has number n
abbrev pub number_from : {P : Type 0} → ℕ → (P → Bool) → List (Member P) → Option ℕ
number_from n is [] = None
number_from n is (m ∷ ms) = cond (is m.key) (Some n) (number_from (n + 1) is ms)

abbrev pub running_number : {P : Type 0} → (P → Bool) → List (Member P) → Option ℕ
running_number is ms = number_from 1 is ms

abbrev pub totals : {P : Type 0} → (P → Bool) → List (Member P) → Option (ℕ × ℕ)
totals is [] = None
totals is (m ∷ ms) = cond (is m.key) (Some (m.first, m.second)) (totals is ms)

-- no key occurs twice
abbrev pub apart : {P : Type 0} → (P → P → Ordering) → List (Member P) → Bool
apart order [] = true
apart order (m ∷ ms) = not (present (matches order m.key) ms) && apart order ms

-- a new book over so many slots
abbrev pub empty_ledger : {P : Type 0} → ℕ → Ledger P
empty_ledger slots = record { capacity = min slots most_members; members = [] }

-- room for one member more
abbrev pub roomy : {P : Type 0} → Ledger P → Bool
roomy l = nat_lt (length l.members) l.capacity

-- a figure above the limit of totals reads as that limit
abbrev pub total : ℕ → ℕ
total n = min n most_total

-- A new member has totals 0.
abbrev pub newcomer : {P : Type 0} → P → Member P
newcomer k = record { key = k; first = 0; second = 0 }

abbrev pub enrolled : {P : Type 0} → P → Ledger P → Ledger P
enrolled k l = record { capacity = l.capacity; members = l.members ++ (newcomer k ∷ []) }

-- the member of that key after its totals are made f and s of what they were
abbrev pub changed : {P : Type 0} → (P → Bool) → (ℕ → ℕ) → (ℕ → ℕ) → List (Member P) → List (Member P)
changed is f s [] = []
changed is f s (m ∷ ms) = cond (is m.key) (record { key = m.key; first = total (f m.first); second = total (s m.second) } ∷ ms) (m ∷ changed is f s ms)

abbrev pub changed_in : {P : Type 0} → (P → Bool) → (ℕ → ℕ) → (ℕ → ℕ) → Ledger P → Ledger P
changed_in is f s l = record { capacity = l.capacity; members = changed is f s l.members }

-- the member of that key with these totals
abbrev pub written_in : {P : Type 0} → (P → Bool) → ℕ → ℕ → Ledger P → Ledger P
written_in is f s l = changed_in is (λ _. f) (λ _. s) l
