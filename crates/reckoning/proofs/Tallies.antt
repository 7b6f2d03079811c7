-- Counting numbers, and the sizes of entries as counts of numbers. Assumes nothing.
use Rattle.std.proofs.Common.{◌≡◌, ℕ, zero, suc, ◌+◌, ◌^◌, ◌<◌, ◌≤◌, Bool, true, false, cond, List, [], ◌∷◌, map, Some, None, Option, sym, refl, ap, ◌∙◌, subst, arith}
use Rattle.std.proofs.lemmas.Bool.Decides.{nat_tests}
use Rattle.std.specs.Option.{option_map}
use Rattle.range_map.specs.Counts.{bit, sum_below, how_many, size, total, passes, tally}
use Rattle.range_map.specs.Plain.{Between, Rising, at, payload_at}
use Rattle.range_map.specs.declared.entry.Entry.{Entry}
use Rattle.range_map.proofs.Counting.{total_tally}
use Rattle.range_map.proofs.Sums.{how_many_same}
use Rattle.register.specs.Holdings.{sizes_of}
use Rattle.reckoning.proofs.Entries.{each_from, each_below}
use Rattle.reckoning.proofs.Invariant.{Each}

bit_few : (b : Bool) → bit b ≤ 1
bit_few true = omega arith
bit_few false = omega arith

-- without 0, at most n of the numbers 0 to n
pub count_few : (p : ℕ → Bool) (n : ℕ) → p 0 ≡ false → how_many p (n + 1) ≤ n
unfolding sum_below
count_few p zero none = omega (arith, ap bit none)
count_few p (suc n) none =
    let e : suc n + 1 ≡ suc (n + 1) = omega arith in
    let at : n + 1 ≡ suc n = omega arith in
    subst (λ k. how_many p k ≤ suc n) (sym e) (omega (arith, count_few p n none, bit_few (p (n + 1))))

-- numbers that do not pass add nothing
pub count_past : (p : ℕ → Bool) (n c : ℕ) → ((k : ℕ) → n ≤ k → p k ≡ false) → how_many p (n + c) ≡ how_many p n
unfolding sum_below
count_past p n zero none = ap (how_many p) (omega arith)
count_past p n (suc c) none =
    let e : n + suc c ≡ suc (n + c) = omega arith in
    ap (how_many p) e ∙ omega (arith, ap bit (none (n + c) (omega arith)), count_past p n c none)

module _ {P : Type 0} (t : Entry P → Bool) where
  -- an entry with its test for a payload
  abbrev marked : Entry P → Entry Bool
  marked e = record { first = e.first; last = e.last; payload = t e }

  at_marked : (n : ℕ) (m : List (Entry P)) → at n (map marked m) ≡ option_map marked (at n m)
  unfolding at
  at_marked n [] = refl
  at_marked n (e ∷ m) = let ih = at_marked n m in grind (arith, nat_tests)

  between_marked : (b h : ℕ) (m : List (Entry P)) → Between b h m → Between b h (map marked m)
  between_marked b h [] w = tt
  between_marked b h (e ∷ m) w = (w.0, w.1, w.2, between_marked (e.last + 1) h m w.3)

  sizes_marked : (m : List (Entry P)) → sizes_of t m ≡ total (λ b. b) (map marked m)
  unfolding sizes_of total
  sizes_marked [] = refl
  sizes_marked (e ∷ m) = ap (λ n. cond (t e) (size e) 0 + n) (sizes_marked m)

  -- the entry that covers a number passes
  abbrev pub passes_at : Option (Entry P) → Bool
  passes_at None = false
  passes_at (Some e) = t e

  marked_passes : (o : Option (Entry P)) → passes (λ b. b) (option_map (λ x. x.payload) (option_map marked o)) ≡ passes_at o
  marked_passes None = refl
  marked_passes (Some e) = refl

  -- the sizes of the entries that pass add up to how many numbers such entries cover
  pub sizes_count : (b h : ℕ) (m : List (Entry P)) → Between b h m → sizes_of t m ≡ how_many (λ n. passes_at (at n m)) h
  unfolding tally
  sizes_count b h m w =
      sizes_marked m
      ∙ total_tally (λ x. x) b h (map marked m) (between_marked b h m w)
      ∙ how_many_same _ (λ n. passes_at (at n m)) h (λ n _. ap (λ o. passes (λ x. x) (option_map (λ x. x.payload) o)) (at_marked n m) ∙ marked_passes (at n m))

tight : {P : Type 0} (b h bound : ℕ) (m : List (Entry P)) → Between b h m → Each (λ e. e.last ≤ bound) m → Between b (bound + 1) m
tight b h bound [] w each = tt
tight b h bound (e ∷ m) w each = (w.0, w.1, omega (arith, each.0), tight (e.last + 1) h bound m w.3 each.1)

-- entries that cover no number past a bound lie below it
pub between_issued : {P : Type 0} (bound : ℕ) (m : List (Entry P)) → Rising m → ((n : ℕ) → bound < n → payload_at n m ≡ None) → Between 0 (bound + 1) m
between_issued bound m w none = tight 0 (2 ^ 62) bound m w (each_from _ (λ e. e.last ≤ bound) (λ e q. q.2) m (each_below 0 (2 ^ 62) bound m w none))
