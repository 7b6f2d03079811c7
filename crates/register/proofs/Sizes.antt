-- The steps of a loop that adds up sizes. Assumes nothing.
use Rattle.std.proofs.Common.{◌≡◌, ℕ, ◌+◌, ◌<◌, ◌≤◌, min, Bool, true, false, cond, List, length, get_or, drop, arith}
use Rattle.std.proofs.lemmas.List.{at_drop_more, at_drop_all}
use Rattle.std.proofs.lemmas.Bool.{cond-true, cond-false}
use Rattle.figures.specs.Limits.{most_total}
use Rattle.range_map.specs.Counts.{size}
use Rattle.range_map.specs.declared.entry.Entry.{Entry}
use Rattle.register.specs.Holdings.{counted, sizes_of}

-- a sum so far, with what is left to add
abbrev pub Adding : {P : Type 0} → (Entry P → Bool) → List (Entry P) → ℕ → ℕ → Type 0
Adding t m n i = (n ≤ most_total) × (min (n + sizes_of t (drop i m)) most_total ≡ counted t m)

module _ {P : Type 0} (t : Entry P → Bool) (m : List (Entry P)) where
  pub adding_none : Adding t m 0 0
  adding_none = (omega arith, omega arith)

  pub adding_all : (n i : ℕ) → Adding t m n i → length m ≤ i → n ≡ counted t m
  unfolding sizes_of
  adding_all n i inv past =
      let none : sizes_of t (drop i m) ≡ 0 = at_drop_all (sizes_of t) m i past in
      omega (arith, inv.0, inv.1)

  module _ (n i : ℕ) (d : Entry P) (inv : Adding t m n i) (within : i < length m) where
    left : sizes_of t (drop i m) ≡ cond (t (get_or m i d)) (size (get_or m i d)) 0 + sizes_of t (drop (i + 1) m)
    unfolding sizes_of
    left = at_drop_more (sizes_of t) m i d within

    pub adding_on : (s n' : ℕ) → t (get_or m i d) ≡ true → s ≡ min (size (get_or m i d)) most_total → n' ≡ min (n + s) most_total → Adding t m n' (i + 1)
    adding_on s n' picked small next =
        let c : cond (t (get_or m i d)) (size (get_or m i d)) 0 ≡ size (get_or m i d) = cond-true _ _ _ picked in
        let e = left in
        let a = inv.0 in
        let b = inv.1 in
        (omega arith, omega arith)

    pub adding_over : (n' : ℕ) → t (get_or m i d) ≡ false → n' ≡ n → Adding t m n' (i + 1)
    adding_over n' over next =
        let c : cond (t (get_or m i d)) (size (get_or m i d)) 0 ≡ 0 = cond-false _ _ _ over in
        let e = left in
        let a = inv.0 in
        let b = inv.1 in
        (omega arith, omega arith)
