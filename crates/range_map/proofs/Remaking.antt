-- The steps of a loop that remakes entries in place. Assumes nothing.
use Rattle.std.proofs.Common.{◌≡◌, ℕ, zero, suc, ◌+◌, ◌^◌, ◌<◌, ◌≤◌, List, [], ◌∷◌, map, length, get_or, set, sym, refl, ap, ◌∙◌, add-one, subst, arith}
use Rattle.range_map.specs.Plain.{Between, Rising, ends, remade}
use Rattle.range_map.specs.declared.entry.Entry.{Entry}

-- the first i entries remade
abbrev pub remade_to : {P : Type 0} → (Entry P → P) → ℕ → List (Entry P) → List (Entry P)
remade_to g zero m = m
remade_to g (suc i) [] = []
remade_to g (suc i) (e ∷ m) = remade g e ∷ remade_to g i m

module _ {P : Type 0} (g : Entry P → P) where
  pub remade_all : (i : ℕ) (m : List (Entry P)) → length m ≤ i → remade_to g i m ≡ map (remade g) m
  remade_all zero [] past = refl
  remade_all (suc i) [] past = refl
  remade_all zero (e ∷ m) past = absurd (omega arith)
  remade_all (suc i) (e ∷ m) past = ap (λ k. remade g e ∷ k) (remade_all i m (omega arith))

  pub remade_long : (i : ℕ) (m : List (Entry P)) → length (remade_to g i m) ≡ length m
  remade_long zero m = refl
  remade_long (suc i) [] = refl
  remade_long (suc i) (e ∷ m) = ap suc (remade_long i m)

  one_more : (i : ℕ) (m : List (Entry P)) (d : Entry P) → i < length m → set (remade_to g i m) i (remade g (get_or (remade_to g i m) i d)) ≡ remade_to g (suc i) m
  one_more i [] d lt = absurd (omega arith)
  one_more zero (e ∷ m) d lt = refl
  one_more (suc i) (e ∷ m) d lt = ap (λ k. remade g e ∷ k) (one_more i m d (omega arith))

  pub remade_on : (i : ℕ) (m now : List (Entry P)) (d : Entry P) (p : P) → now ≡ remade_to g i m → i < length m → p ≡ g (get_or now i d) → set now i (record { first = (get_or now i d).first; last = (get_or now i d).last; payload = p }) ≡ remade_to g (i + 1) m
  remade_on i m now d p inv lt made =
      ap (λ q. set now i (record { first = (get_or now i d).first; last = (get_or now i d).last; payload = q })) made
      ∙ ap (λ k. set k i (remade g (get_or k i d))) inv
      ∙ one_more i m d lt
      ∙ ap (λ k. remade_to g k m) (sym (add-one i))

-- the ranges stay
pub ends_stay : {P : Type 0} (xs : List (Entry P)) (i : ℕ) (d : Entry P) (p : P) → i < length xs → map ends (set xs i (record { first = (get_or xs i d).first; last = (get_or xs i d).last; payload = p })) ≡ map ends xs
ends_stay [] i d p lt = absurd (omega arith)
ends_stay (e ∷ m) zero d p lt = refl
ends_stay (e ∷ m) (suc i) d p lt = ap (λ k. ends e ∷ k) (ends_stay m i d p (omega arith))

first_of : {P : Type 0} → Entry P → List (ℕ × ℕ) → ℕ
first_of d [] = d.first
first_of d (r ∷ rs) = r.0

last_of : {P : Type 0} → Entry P → List (ℕ × ℕ) → ℕ
last_of d [] = d.last
last_of d (r ∷ rs) = r.1

rest_of : List (ℕ × ℕ) → List (ℕ × ℕ)
rest_of [] = []
rest_of (r ∷ rs) = rs

-- entries of the same ranges rise alike
between_ends : {P : Type 0} (low high : ℕ) (xs ys : List (Entry P)) → map ends xs ≡ map ends ys → Between low high xs → Between low high ys
unfolding first_of last_of rest_of
between_ends low high [] [] same rise = rise
between_ends low high [] (y ∷ ys) same rise = absurd (cc)
between_ends low high (x ∷ xs) [] same rise = absurd (cc)
between_ends low high (x ∷ xs) (y ∷ ys) same rise =
    let first : x.first ≡ y.first = ap (first_of x) same in
    let last : x.last ≡ y.last = ap (last_of x) same in
    let more = between_ends (x.last + 1) high xs ys (ap rest_of same) rise.3 in
    (omega (arith, first, rise.0), omega (arith, first, last, rise.1), omega (arith, last, rise.2), subst (λ n. Between (n + 1) high ys) last more)

pub rising_ends : {P : Type 0} (xs ys : List (Entry P)) → map ends xs ≡ map ends ys → Rising xs → Rising ys
rising_ends xs ys same rise = between_ends 0 (2 ^ 62) xs ys same rise
