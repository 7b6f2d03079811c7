-- The turns of the loop that probes a range of slots, and the two ranges that make a whole probe: from the key's home
-- slot up to the end of the table, and then from the first slot up to the home slot. Assumes nothing.
use Rattle.std.proofs.Common.{◌≡◌, ℕ, suc, ◌+◌, ◌-◌, ◌%◌, ◌<◌, ◌≤◌, Bool, List, length, get_or, Some, None, Option, sym, refl, ap, ◌∙◌, ⊎_elim, arith}
use Rattle.std.specs.Option.{MatchOption, option_map, unwrap_or}
use Rattle.std.proofs.lemmas.List.{get_or_default}
use Rattle.std.proofs.lemmas.Bool.{cases_lt, cond-true, cond-false, lt-ltb, le-ltb}
use Rattle.std.proofs.Math.Nat.{mod-eq_of_lt, mod_self}
use Rattle.books.specs.declared.rows.Row.{Row}
use Rattle.books_hashed.specs.Probing.{key_at, next_slot, ends_or, glanced, probe_from}
use Rattle.books_hashed.specs.declared.probing.Probe.{Probe}
use Rattle.books_hashed.specs.declared.probing.Probe.TheVariants.{Full}

-- the slot after one of the table, by the rest of a division
next_rest : (m p : ℕ) → p < m → next_slot m p ≡ (p + 1) % m
next_rest m p h =
    ⊎_elim
    (λ inner. cond-true _ _ _ (lt-ltb (p + 1) m inner) ∙ sym (mod-eq_of_lt inner))
    (λ last.
    let over : p + 1 ≡ m = omega arith in
    cond-false _ _ _ (le-ltb (p + 1) m last) ∙ sym (mod_self m) ∙ ap (λ x. x % m) (sym over))
    (cases_lt (p + 1) m)

-- what the slot says decides, or else the rest of the probe
module _ {P : Type 0} (is : P → Bool) (slots : List (Option (Row P))) (at to n : ℕ) (before : at < to) (within : to ≤ length slots) (slot : Option (Row P)) (read : slot ≡ get_or slots at slot) (end : Probe) (here : probe_from is (key_at slots) (length slots) (at % length slots) (to - at + n) ≡ end) where
  rest : Probe
  rest = probe_from is (key_at slots) (length slots) ((at + 1) % length slots) (to - (at + 1) + n)

  decided : ends_or (glanced is (option_map (λ r. r.key) slot) at) rest ≡ end
  unfolding rest
  decided =
      let m = length slots in
      let inside : at < length slots = omega arith in
      let key_is : option_map (λ r. r.key) slot ≡ key_at slots at = ap (option_map (λ r. r.key)) (read ∙ get_or_default slots at slot None inside) in
      let more : suc (to - (at + 1) + n) ≡ to - at + n = omega arith in
      ap (λ k. ends_or (glanced is k at) rest) key_is
      ∙ ap (λ p. ends_or (glanced is (key_at slots at) at) (probe_from is (key_at slots) m p (to - (at + 1) + n))) (sym (next_rest m at inside))
      ∙ ap (probe_from is (key_at slots) m at) more
      ∙ ap (λ p. probe_from is (key_at slots) m p (to - at + n)) (sym (mod-eq_of_lt inside))
      ∙ here

  pub ends_here : (r : Probe) → Some r ≡ glanced is (option_map (λ x. x.key) slot) at → r ≡ end
  ends_here r h = ap (λ o. ends_or o rest) h ∙ decided

  pub goes_on : None ≡ glanced is (option_map (λ x. x.key) slot) at → probe_from is (key_at slots) (length slots) ((at + 1) % length slots) (to - (at + 1) + n) ≡ end
  unfolding rest
  goes_on h = ap (λ o. ends_or o rest) h ∙ decided

module _ {P : Type 0} (is : P → Bool) (keys : ℕ → Option P) (m : ℕ) where
  ends_full : (o : Option Probe) → unwrap_or o Full ≡ ends_or o Full
  ends_full None = refl
  ends_full (Some x) = refl

  -- The slots from the home slot on decide, or else those before it; A is what is known where these are asked.
  pub whole : (home : ℕ) → home < m → (upper joined : Option Probe)
      → ((n : ℕ) → ends_or upper (probe_from is keys m (m % m) n) ≡ probe_from is keys m home (m - home + n))
      → {A : Type 0} → MatchOption upper A (λ x. joined ≡ Some x)
      → (A → (n : ℕ) → ends_or joined (probe_from is keys m (home % m) n) ≡ probe_from is keys m 0 (home - 0 + n))
      → unwrap_or joined Full ≡ probe_from is keys m home m
  whole home inside None joined u second lower =
      let all : m - home + home ≡ m = omega arith in
      let low : home - 0 + 0 ≡ home = omega arith in
      ends_full joined
      ∙ lower second 0
      ∙ ap (probe_from is keys m 0) low
      ∙ ap (λ p. probe_from is keys m p home) (sym (mod_self m))
      ∙ u home
      ∙ ap (probe_from is keys m home) all
  whole home inside (Some x) joined u same lower =
      let all : m - home + home ≡ m = omega arith in
      ap (λ o. unwrap_or o Full) same ∙ u home ∙ ap (probe_from is keys m home) all
