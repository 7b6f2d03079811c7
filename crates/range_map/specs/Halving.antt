-- Where the halving stops, on any list. It asks only where entries end.
use Rattle.std.specs.Prelude.{ℕ, zero, suc, ◌+◌, ◌-◌, ◌/◌, cond, List, map, length, nat_lt, slice_index}
use Rattle.range_map.specs.declared.entry.Entry.{Entry}

-- the turns left are at most the first number; the place lies from low to high
unfoldable pub seek : ℕ → List ℕ → ℕ → ℕ → ℕ → ℕ
seek n xs zero low high = low
seek n xs (suc k) low high =
    cond (nat_lt low high)
    (cond (nat_lt (slice_index xs (low + (high - low) / 2)) n) (seek n xs k (low + (high - low) / 2 + 1) high) (seek n xs k low (low + (high - low) / 2)))
    low

abbrev pub lasts : {P : Type 0} → List (Entry P) → List ℕ
lasts m = map (λ e. e.last) m

-- the index of the first entry that ends at n or past it
unfoldable pub place : {P : Type 0} → ℕ → List (Entry P) → ℕ
place n m = seek n (lasts m) (length m) 0 (length m)
