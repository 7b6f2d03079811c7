-- How rows in any order stand for the members in the order in which they joined. Assumes nothing.
use Rattle.std.specs.Prelude.{◌≡◌, ℕ, zero, suc, cond, ◌&&◌, List, [], ◌∷◌, ◌++◌, length, Some, None, Option, ◌==◌, nat_le}
use Rattle.books.specs.Ledger.{Member, total}
use Rattle.books.specs.declared.rows.Row.{Row}

abbrev pub blank : {P : Type 0} → P → Row P
blank k = record { key = k; number = 0; first = 0; second = 0 }

abbrev pub member : {P : Type 0} → Row P → Member P
member r = record { key = r.key; first = r.first; second = r.second }

-- the member of a row that has running number j
abbrev pub numbered : {P : Type 0} → ℕ → Option (Row P) → List (Member P)
numbered j None = []
numbered j (Some r) = cond (r.number == j) (member r ∷ []) []

-- A slot is an X, and `view` gives the row that it holds, if any.
abbrev pub sieve : {X P : Type 0} → (X → Option (Row P)) → ℕ → List X → List (Member P)
sieve view j [] = []
sieve view j (x ∷ xs) = numbered j (view x) ++ sieve view j xs

-- the members with running numbers 1 to n, in that order
abbrev pub ordered : {X P : Type 0} → (X → Option (Row P)) → ℕ → List X → List (Member P)
ordered view zero xs = []
ordered view (suc n) xs = ordered view n xs ++ sieve view (suc n) xs

-- each running number from 1 to n occurs exactly once, and no other does
abbrev pub once : ℕ → ℕ → ℕ
once n j = cond (nat_le 1 j && nat_le j n) 1 0

abbrev pub Once : {X P : Type 0} → (X → Option (Row P)) → ℕ → List X → Type 0
Once view n xs = (j : ℕ) → length (sieve view j xs) ≡ once n j

-- the row with these totals, each at most the limit
abbrev pub with_totals : {P : Type 0} → Row P → ℕ → ℕ → Row P
with_totals r f s = record { key = r.key; number = r.number; first = total f; second = total s }

-- the row of a member that joins as number n
abbrev pub joining : {P : Type 0} → P → ℕ → Row P
joining k n = record { key = k; number = n; first = 0; second = 0 }
