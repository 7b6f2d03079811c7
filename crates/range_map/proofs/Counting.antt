-- Sizes of entries against counts of positions, and runs of equal payload against entries. Assumes nothing.
use Rattle.std.proofs.Common.{◌≡◌, ℕ, zero, suc, ◌+◌, ◌-◌, ◌<◌, ◌≤◌, Bool, true, false, cond, not, ◌&&◌, eqb, List, [], ◌∷◌, length, Some, None, Option, sym, refl, ap, ◌∙◌, ⊎_elim, arith}
use Rattle.std.proofs.lemmas.Bool.{cases_lt, lt-ltb, le-ltb, le-leb, lt-leb, eq-eqb, cond-true, cond-false}
use Rattle.std.proofs.lemmas.Bool.Decides.{nat_tests}
use Rattle.std.specs.Option.{option_map}
use Rattle.range_map.specs.declared.entry.Entry.{Entry}
use Rattle.range_map.specs.Plain.{within, Between, at, payload_at, cut, lay}
use Rattle.range_map.specs.Counts.{bit, sum_below, how_many, size, total, passes, tally, begins, before, runs}
use Rattle.range_map.specs.Laws.{CutLosesNothing}
use Rattle.range_map.proofs.Cutting.{at_below, at_cut}
use Rattle.range_map.proofs.Sums.{sum_none, sum_le, sum_add, how_many_split, how_many_none, how_many_range, how_many_one}

bit_most : (b : Bool) → bit b ≤ 1
bit_most true = omega arith
bit_most false = omega arith

pub alone : (b : Bool) (f l h : ℕ) → f ≤ l → l < h → how_many (λ n. b && within f l n) h ≡ cond b (l - f + 1) 0
alone true f l h le lt = how_many_range f l h le lt
alone false f l h le lt = how_many_none h

module _ {P : Type 0} where
  -- the positions that pass in e and m together are those in e and those in m
  apart : (t : P → Bool) (e : Entry P) (b h : ℕ) (m : List (Entry P)) → Between b h (e ∷ m) → (n : ℕ) → bit (passes t (payload_at n (e ∷ m))) ≡ bit (t e.payload && within e.first e.last n) + bit (passes t (payload_at n m))
  unfolding at
  apart t e b h m w n =
      ⊎_elim
      (λ lt. grind (arith, nat_tests))
      (λ ge. let none : at n m ≡ None = at_below n (e.last + 1) h m w.3 (omega arith) in grind (arith, nat_tests))
      (cases_lt e.last n)

  total_from : (t : P → Bool) (b h : ℕ) (m : List (Entry P)) → Between b h m → total t m ≡ how_many (λ n. passes t (payload_at n m)) h
  unfolding total at
  total_from t b h [] w = sym (how_many_none h)
  total_from t b h (e ∷ m) w =
      let i = total_from t (e.last + 1) h m w.3 in
      let one = alone (t e.payload) e.first e.last h w.1 w.2 in
      let both = how_many_split (λ n. passes t (payload_at n (e ∷ m))) (λ n. t e.payload && within e.first e.last n) (λ n. passes t (payload_at n m)) h (λ n _. apart t e b h m w n) in
      (λ j. sym one j + i j) ∙ sym both

  -- the sizes of the entries whose payload passes a test add up to how many positions have a payload that passes it
  pub total_tally : (t : P → Bool) (b h : ℕ) (m : List (Entry P)) → Between b h m → total t m ≡ tally t h m
  unfolding tally
  total_tally t b h m w = total_from t b h m w

  -- and so a cut, which changes what no position has, changes no total
  pub total_cut : (t : P → Bool) (n : ℕ) (m : List (Entry P)) → total t (cut n m) ≡ total t m
  unfolding total cut
  total_cut t n [] = refl
  total_cut t n (e ∷ m) = let i = total_cut t n m in grind (arith, nat_tests)

  pub total_lay : (t : P → Bool) (x : Entry P) (m : List (Entry P)) → total t (lay x m) ≡ total t m + cond (t x.payload) (size x) 0
  unfolding total lay
  total_lay t x [] = omega arith
  total_lay t x (e ∷ m) = let i = total_lay t x m in grind (arith, nat_tests)

  pub cut_loses_nothing : (m : List (Entry P)) → CutLosesNothing m
  cut_loses_nothing m = record { positions = λ n k. at_cut n k m; totals = λ n t. total_cut t n m }

  pay_past : (k : ℕ) (e : Entry P) (m : List (Entry P)) → e.last < k → payload_at k (e ∷ m) ≡ payload_at k m
  unfolding at
  pay_past k e m lt = ap (option_map (λ x. x.payload)) (cond-true _ _ _ (lt-ltb _ k lt))

  pay_in : (k : ℕ) (e : Entry P) (m : List (Entry P)) → k ≤ e.last → e.first ≤ k → payload_at k (e ∷ m) ≡ Some e.payload
  unfolding at
  pay_in k e m reach begun = ap (option_map (λ x. x.payload)) (cond-false _ _ _ (le-ltb _ k reach) ∙ cond-true _ _ _ (le-leb _ k begun))

  pay_early : (k : ℕ) (e : Entry P) (m : List (Entry P)) → k ≤ e.last → k < e.first → payload_at k (e ∷ m) ≡ None
  unfolding at
  pay_early k e m reach late = ap (option_map (λ x. x.payload)) (cond-false _ _ _ (le-ltb _ k reach) ∙ cond-false _ _ _ (lt-leb _ k late))

  -- how many entries begin at n
  firsts : ℕ → List (Entry P) → ℕ
  firsts n [] = 0
  firsts n (e ∷ m) = bit (eqb n e.first) + firsts n m

  firsts_all : (h : ℕ) (m : List (Entry P)) → sum_below (λ n. firsts n m) h ≤ length m
  unfolding firsts
  firsts_all h [] = omega (arith, sum_none h)
  firsts_all h (e ∷ m) = omega (arith, sum_add (λ n. bit (eqb n e.first)) (λ n. firsts n m) h, how_many_one e.first h, firsts_all h m)

  -- a run begins only where an entry does
  module _ (same : P → P → Bool) (whole : (p : P) → same p p ≡ true) where
    abbrev starts : ℕ → List (Entry P) → Bool
    starts n m = begins same (before n m) (payload_at n m)

    begins_after : (o o' : Option P) → bit (begins same o o') ≤ bit (begins same None o')
    begins_after None None = omega arith
    begins_after None (Some p) = omega arith
    begins_after (Some q) None = omega arith
    begins_after (Some q) (Some p) = bit_most (not (same q p))

    run_start : (b h : ℕ) (m : List (Entry P)) → Between b h m → (n : ℕ) → bit (starts n m) ≤ firsts n m
    unfolding firsts at
    run_start b h [] w zero = omega arith
    run_start b h [] w (suc n) = omega arith
    run_start b h (e ∷ m) w zero =
        let i = run_start (e.last + 1) h m w.3 zero in
        grind (arith, nat_tests)
    run_start b h (e ∷ m) w (suc n) =
        let i = run_start (e.last + 1) h m w.3 (suc n) in
        ⊎_elim
        (λ lt.
        let same_start : bit (starts (suc n) (e ∷ m)) ≡ bit (starts (suc n) m) = λ j. bit (begins same (pay_past n e m lt j) (pay_past (suc n) e m (omega arith) j)) in
        omega (arith, same_start))
        (λ ge.
        ⊎_elim
        (λ lt.
        let none : payload_at n m ≡ None = ap (option_map (λ x. x.payload)) (at_below n (e.last + 1) h m w.3 (omega arith)) in
        let on : bit (starts (suc n) (e ∷ m)) ≡ bit (begins same (payload_at n (e ∷ m)) (payload_at (suc n) m)) = ap (λ o. bit (begins same (payload_at n (e ∷ m)) o)) (pay_past (suc n) e m lt) in
        let here : bit (starts (suc n) m) ≡ bit (begins same None (payload_at (suc n) m)) = ap (λ o. bit (begins same o (payload_at (suc n) m))) none in
        omega (arith, on, here, begins_after (payload_at n (e ∷ m)) (payload_at (suc n) m)))
        (λ in'.
        ⊎_elim
        (λ late.
        let no : bit (starts (suc n) (e ∷ m)) ≡ 0 = ap (λ o. bit (begins same (payload_at n (e ∷ m)) o)) (pay_early (suc n) e m in' late) in
        omega (arith, no))
        (λ begun.
        ⊎_elim
        (λ border.
        let one : bit (eqb (suc n) e.first) ≡ 1 = ap bit (eq-eqb (suc n) e.first (omega arith)) in
        omega (arith, one, bit_most (starts (suc n) (e ∷ m))))
        (λ inner.
        let no : bit (starts (suc n) (e ∷ m)) ≡ 0
        = (λ j. bit (begins same (pay_in n e m (omega arith) inner j) (pay_in (suc n) e m in' (omega arith) j))) ∙ ap (λ x. bit (not x)) (whole e.payload) in
        omega (arith, no))
        (cases_lt n e.first))
        (cases_lt (suc n) e.first))
        (cases_lt e.last (suc n)))
        (cases_lt e.last n)

    -- runs of equal payload are at most the entries
    pub runs_entries : (b h : ℕ) (m : List (Entry P)) → Between b h m → runs same h m ≤ length m
    unfolding runs
    runs_entries b h m w = omega (arith, sum_le (λ n. bit (starts n m)) (λ n. firsts n m) h (λ n _. run_start b h m w n), firsts_all h m)
