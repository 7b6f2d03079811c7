-- What a row more, or a row with other totals, does to the members. Assumes nothing.
use Rattle.std.proofs.Common.{◌≡◌, ℕ, suc, ◌+◌, ◌-◌, ◌<◌, ◌≤◌, cond, eqb, List, [], ◌∷◌, ◌++◌, length, get_or, take, drop, set, Some, Option, sym, refl, ap, ◌∙◌, subst, ⊎_elim, arith}
use Rattle.std.proofs.lemmas.List.{length-append, length-set, same_lists, set_split, set-get_or, get_or-set_same, get_or-set_other, get_or_at}
use Rattle.std.proofs.lemmas.Bool.{cases_eq, cond_both}
use Rattle.std.proofs.lemmas.Bool.Decides.{nat_tests}
use Rattle.books.specs.Rows.{member, numbered, sieve, ordered, once, Once}
use Rattle.books.specs.declared.rows.Row.{Row}
use Rattle.books.proofs.Numbering.{once_within, sieve_append, sieve_at, numbered_other, ordered_same, length_members, slice_index_or_ordered, sieve_once, number_bounds}

length_numbered : {P : Type 0} (j : ℕ) (r : Row P) → length (numbered j (Some r)) ≡ cond (eqb r.number j) 1 0
length_numbered j r = cond_both (eqb r.number j) (member r ∷ []) [] (λ l. length l ≡ cond (eqb r.number j) 1 0) (λ e. sym (ap (λ b. cond b 1 0) e)) (λ e. sym (ap (λ b. cond b 1 0) e))

once_more : (n j number : ℕ) → number ≡ n + 1 → once n j + cond (eqb number j) 1 0 ≡ once (n + 1) j
once_more n j number e = grind (arith, nat_tests)

module _ {X P : Type 0} (view : X → Option (Row P)) where
  -- ys has the row x of number n + 1 where xs has slots zs without a row
  module _ (n : ℕ) (fs zs bs : List X) (x : X) (r : Row P) (none : (j : ℕ) → sieve view j zs ≡ []) (is : view x ≡ Some r) (last : r.number ≡ n + 1) (each : Once view n (fs ++ (zs ++ bs))) where
    before : (j : ℕ) → sieve view j (fs ++ (zs ++ bs)) ≡ sieve view j fs ++ sieve view j bs
    before j =
        sieve_append view j fs (zs ++ bs)
        ∙ ap (λ l. sieve view j fs ++ l) (sieve_append view j zs bs ∙ ap (λ l. l ++ sieve view j bs) (none j))

    after : (j : ℕ) → sieve view j (fs ++ (x ∷ bs)) ≡ sieve view j fs ++ (numbered j (Some r) ++ sieve view j bs)
    after j = sieve_append view j fs (x ∷ bs) ∙ ap (λ o. sieve view j fs ++ (numbered j o ++ sieve view j bs)) is

    pub more_once : Once view (n + 1) (fs ++ (x ∷ bs))
    more_once j =
        let long = ap length (after j) ∙ length-append (sieve view j fs) (numbered j (Some r) ++ sieve view j bs) in
        let inner = length-append (numbered j (Some r)) (sieve view j bs) in
        let short = ap length (before j) ∙ length-append (sieve view j fs) (sieve view j bs) in
        omega (arith, each j, length_numbered j r, once_more n j r.number last)

    earlier : (j : ℕ) → 1 ≤ j → j ≤ n → sieve view j (fs ++ (x ∷ bs)) ≡ sieve view j (fs ++ (zs ++ bs))
    earlier j a b =
        after j
        ∙ ap (λ l. sieve view j fs ++ (l ++ sieve view j bs)) (ap (numbered j) (sym is) ∙ numbered_other view x r j is (omega arith))
        ∙ sym (before j)

    newest : (d : X) → sieve view (suc n) (fs ++ (x ∷ bs)) ≡ member r ∷ []
    newest d =
        let number : r.number ≡ suc n = omega arith in
        let one : length (sieve view r.number (fs ++ (x ∷ bs))) ≡ 1 = more_once r.number ∙ once_within (n + 1) r.number (omega arith) (omega arith) in
        subst (λ j. sieve view j (fs ++ (x ∷ bs)) ≡ member r ∷ []) number
        (sieve_at view (fs ++ (x ∷ bs)) (length fs) d r (omega (arith, length-append fs (x ∷ bs))) (ap view (get_or_at fs x bs d (length fs) refl) ∙ is) one)

    pub more_ordered : ordered view (n + 1) (fs ++ (x ∷ bs)) ≡ ordered view n (fs ++ (zs ++ bs)) ++ member r ∷ []
    more_ordered =
        let number : n + 1 ≡ suc n = omega arith in
        let front = ordered_same view n (fs ++ (x ∷ bs)) (fs ++ (zs ++ bs)) earlier in
        ap (λ m. ordered view m (fs ++ (x ∷ bs))) number ∙ (λ i. front i ++ newest x i)

  sieve_set : (j : ℕ) (xs : List X) (i : ℕ) (x : X) (r : Row P) → i < length xs → view x ≡ Some r → sieve view j (set xs i x) ≡ sieve view j (take i xs) ++ (numbered j (Some r) ++ sieve view j (drop (suc i) xs))
  sieve_set j xs i x r l is =
      ap (sieve view j) (set_split xs i x l)
      ∙ sieve_append view j (take i xs) (x ∷ drop (suc i) xs)
      ∙ ap (λ o. sieve view j (take i xs) ++ (numbered j o ++ sieve view j (drop (suc i) xs))) is

  -- the row at i gets other totals and keeps its number
  module _ (n : ℕ) (xs : List X) (i : ℕ) (d x : X) (was r : Row P) (l : i < length xs) (held : view (get_or xs i d) ≡ Some was) (is : view x ≡ Some r) (same : r.number ≡ was.number) (each : Once view n xs) where
    sieve_get : (j : ℕ) → sieve view j xs ≡ sieve view j (take i xs) ++ (numbered j (Some was) ++ sieve view j (drop (suc i) xs))
    sieve_get j = ap (sieve view j) (sym (set-get_or xs i d)) ∙ sieve_set j xs i (get_or xs i d) was l held

    same_long : (j : ℕ) → length (numbered j (Some r)) ≡ length (numbered j (Some was))
    same_long j = length_numbered j r ∙ ap (λ m. cond (eqb m j) 1 0) same ∙ sym (length_numbered j was)

    pub rewritten_once : Once view n (set xs i x)
    rewritten_once j =
        let a = sieve view j (take i xs) in
        let b = sieve view j (drop (suc i) xs) in
        let new = ap length (sieve_set j xs i x r l is) ∙ length-append a (numbered j (Some r) ++ b) in
        let old = ap length (sieve_get j) ∙ length-append a (numbered j (Some was) ++ b) in
        omega (arith, each j, same_long j, length-append (numbered j (Some r)) b, length-append (numbered j (Some was)) b)

    others : (j : ℕ) → (r.number ≡ j → ⊥) → sieve view j (set xs i x) ≡ sieve view j xs
    others j ne =
        let a = sieve view j (take i xs) in
        let b = sieve view j (drop (suc i) xs) in
        let new : numbered j (Some r) ≡ [] = ap (numbered j) (sym is) ∙ numbered_other view x r j is ne in
        let old : numbered j (Some was) ≡ [] = ap (numbered j) (sym held) ∙ numbered_other view (get_or xs i d) was j held (λ e. ne (same ∙ e)) in
        sieve_set j xs i x r l is ∙ ap (λ m. a ++ (m ++ b)) (new ∙ sym old) ∙ sym (sieve_get j)

    number_within : (1 ≤ r.number) × (r.number ≤ n)
    number_within = let w = number_bounds view n xs each i d was l held in (omega arith, omega arith)

    mine : sieve view r.number (set xs i x) ≡ member r ∷ []
    mine =
        sieve_at view (set xs i x) i d r (omega (arith, length-set xs i x)) (ap view (get_or-set_same xs i x d l) ∙ is)
        (rewritten_once r.number ∙ once_within n r.number number_within.0 number_within.1)

    pub rewritten_ordered : ordered view n (set xs i x) ≡ set (ordered view n xs) (r.number - 1) (member r)
    rewritten_ordered =
        let within = number_within in
        let long = length_members view n xs each in
        let long' = length_members view n (set xs i x) rewritten_once in
        let kept = length-set (ordered view n xs) (r.number - 1) (member r) in
        same_lists _ _ (omega arith)
        (λ k e k<.
        slice_index_or_ordered view n (set xs i x) (sieve_once view n (set xs i x) rewritten_once) k e (omega arith)
        ∙ ⊎_elim
        (λ here.
        let at : r.number - 1 ≡ k = omega arith in
        ap (λ j. get_or (sieve view j (set xs i x)) 0 e) (sym here)
        ∙ ap (λ m. get_or m 0 e) mine
        ∙ sym (ap (λ j. get_or (set (ordered view n xs) j (member r)) k e) at ∙ get_or-set_same (ordered view n xs) k (member r) e (omega arith)))
        (λ away.
        ap (λ m. get_or m 0 e) (others (suc k) away)
        ∙ sym (get_or-set_other (ordered view n xs) (r.number - 1) k (member r) e (omega arith) ∙ slice_index_or_ordered view n xs (sieve_once view n xs each) k e (omega arith)))
        (cases_eq r.number (suc k)))
