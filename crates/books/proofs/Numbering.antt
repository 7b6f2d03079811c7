-- What rows say of the members: where a row's member stands, and what a row more or a changed row does. Assumes nothing.
use Rattle.std.proofs.Common.{◌≡◌, ℕ, zero, suc, ◌+◌, ◌-◌, ◌<◌, ◌≤◌, Bool, true, false, cond, eqb, List, [], ◌∷◌, ◌++◌, length, get_or, Some, None, Option, sym, refl, ap, ◌∙◌, ⊎_elim, arith}
use Rattle.std.proofs.lemmas.List.{append_assoc, length-append, nil_from_length, get_or_append_left, get_or-append_right}
use Rattle.std.proofs.lemmas.Bool.{cases_lt, eq-eqb, ne_eqb, cond-true, cond-false, cond_both}
use Rattle.std.proofs.lemmas.Bool.Decides.{nat_tests}
use Rattle.books.specs.Ledger.{Member, present}
use Rattle.books.specs.Rows.{member, numbered, sieve, ordered, once, Once}
use Rattle.books.specs.declared.rows.Row.{Row}

pub once_within : (n j : ℕ) → 1 ≤ j → j ≤ n → once n j ≡ 1
once_within n j a b = grind (arith, nat_tests)

pub once_above : (n j : ℕ) → n < j → once n j ≡ 0
once_above n j a = grind (arith, nat_tests)

pub once_positive : (n j : ℕ) → 1 ≤ once n j → (1 ≤ j) × (j ≤ n)
once_positive n j h = grind (arith, nat_tests)

present_append : {P : Type 0} (is : P → Bool) (ms ns : List (Member P)) → present is (ms ++ ns) ≡ cond (present is ms) true (present is ns)
present_append is [] ns = refl
present_append is (m ∷ ms) ns = let ih = present_append is ms ns in grind (arith, nat_tests)

numbered_absent : {P : Type 0} (is : P → Bool) (j : ℕ) (o : Option (Row P)) → ((r : Row P) → o ≡ Some r → is r.key ≡ false) → present is (numbered j o) ≡ false
numbered_absent is j None h = refl
numbered_absent is j (Some r) h = let no' = h r refl in cond_both (eqb r.number j) (member r ∷ []) [] (λ l. present is l ≡ false) (λ _. cond-false _ _ _ no') (λ _. refl)

module _ {X P : Type 0} (view : X → Option (Row P)) where
  pub sieve_append : (j : ℕ) (xs ys : List X) → sieve view j (xs ++ ys) ≡ sieve view j xs ++ sieve view j ys
  sieve_append j [] ys = refl
  sieve_append j (x ∷ xs) ys = ap (λ l. numbered j (view x) ++ l) (sieve_append j xs ys) ∙ sym (append_assoc (numbered j (view x)) (sieve view j xs) (sieve view j ys))

  numbered_here : (x : X) (r : Row P) → view x ≡ Some r → numbered r.number (view x) ≡ member r ∷ []
  numbered_here x r h = ap (numbered r.number) h ∙ cond-true _ _ _ (eq-eqb r.number r.number refl)

  pub numbered_other : (x : X) (r : Row P) (j : ℕ) → view x ≡ Some r → (r.number ≡ j → ⊥) → numbered j (view x) ≡ []
  numbered_other x r j h ne = ap (numbered j) h ∙ cond-false _ _ _ (ne_eqb r.number j ne)

  -- a row is among those of its number
  pub sieve_some : (xs : List X) (i : ℕ) (d : X) (r : Row P) → i < length xs → view (get_or xs i d) ≡ Some r → 1 ≤ length (sieve view r.number xs)
  sieve_some [] i d r l h = absurd (omega arith)
  sieve_some (x ∷ xs) zero d r l h =
      omega (arith, length-append (numbered r.number (view x)) (sieve view r.number xs), ap length (numbered_here x r h))
  sieve_some (x ∷ xs) (suc i) d r l h =
      omega (arith, length-append (numbered r.number (view x)) (sieve view r.number xs), sieve_some xs i d r (omega arith) h)

  -- and the only one, where there is one
  pub sieve_at : (xs : List X) (i : ℕ) (d : X) (r : Row P) → i < length xs → view (get_or xs i d) ≡ Some r → length (sieve view r.number xs) ≡ 1 → sieve view r.number xs ≡ member r ∷ []
  sieve_at [] i d r l h e = absurd (omega arith)
  sieve_at (x ∷ xs) zero d r l h e =
      let here = numbered_here x r h in
      let none : sieve view r.number xs ≡ [] = nil_from_length _ (omega (arith, length-append (numbered r.number (view x)) (sieve view r.number xs), ap length here)) in
      λ i. here i ++ none i
  sieve_at (x ∷ xs) (suc i) d r l h e =
      let some = sieve_some xs i d r (omega arith) h in
      let long = length-append (numbered r.number (view x)) (sieve view r.number xs) in
      let none : numbered r.number (view x) ≡ [] = nil_from_length _ (omega arith) in
      ap (λ l. l ++ sieve view r.number xs) none ∙ sieve_at xs i d r (omega arith) h (omega arith)

  pub ordered_same : (n : ℕ) (xs ys : List X) → ((j : ℕ) → 1 ≤ j → j ≤ n → sieve view j xs ≡ sieve view j ys) → ordered view n xs ≡ ordered view n ys
  ordered_same zero xs ys h = refl
  ordered_same (suc n) xs ys h =
      let before = ordered_same n xs ys (λ j a b. h j a (omega arith)) in
      let last = h (suc n) (omega arith) (omega arith) in
      λ i. before i ++ last i

  pub length_ordered : (n : ℕ) (xs : List X) → ((j : ℕ) → 1 ≤ j → j ≤ n → length (sieve view j xs) ≡ 1) → length (ordered view n xs) ≡ n
  length_ordered zero xs h = refl
  length_ordered (suc n) xs h =
      omega (arith, length-append (ordered view n xs) (sieve view (suc n) xs), length_ordered n xs (λ j a b. h j a (omega arith)), h (suc n) (omega arith) (omega arith))

  -- the member of running number j + 1
  pub slice_index_or_ordered : (n : ℕ) (xs : List X) → ((j : ℕ) → 1 ≤ j → j ≤ n → length (sieve view j xs) ≡ 1) → (j : ℕ) (d : Member P) → j < n → get_or (ordered view n xs) j d ≡ get_or (sieve view (suc j) xs) 0 d
  slice_index_or_ordered zero xs h j d l = absurd (omega arith)
  slice_index_or_ordered (suc n) xs h j d l =
      let less : (k : ℕ) → 1 ≤ k → k ≤ n → length (sieve view k xs) ≡ 1 = λ k a b. h k a (omega arith) in
      let long = length_ordered n xs less in
      ⊎_elim
      (λ before. get_or_append_left (ordered view n xs) (sieve view (suc n) xs) d j (omega arith) ∙ slice_index_or_ordered n xs less j d before)
      (λ last.
      let same : j ≡ n = omega arith in
      let none : j - n ≡ 0 = omega arith in
      get_or-append_right (ordered view n xs) (sieve view (suc n) xs) n j d long (omega arith)
      ∙ ap (λ k. get_or (sieve view (suc n) xs) k d) none
      ∙ ap (λ k. get_or (sieve view (suc k) xs) 0 d) (sym same))
      (cases_lt j n)

  -- Of rows numbered from 1 to n: the facts of the book's meaning, given at one row or at all.
  module _ (n : ℕ) (xs : List X) (each : Once view n xs) where
    pub sieve_once : (j : ℕ) → 1 ≤ j → j ≤ n → length (sieve view j xs) ≡ 1
    sieve_once j a b = each j ∙ once_within n j a b

    pub length_members : length (ordered view n xs) ≡ n
    length_members = length_ordered n xs sieve_once

    -- a row's member stands at its running number
    pub number_bounds : (i : ℕ) (d : X) (r : Row P) → i < length xs → view (get_or xs i d) ≡ Some r → (1 ≤ r.number) × (r.number ≤ n)
    number_bounds i d r l h = once_positive n r.number (omega (arith, sieve_some xs i d r l h, each r.number))

    pub member_at : (i : ℕ) (d : X) (r : Row P) (e : Member P) → i < length xs → view (get_or xs i d) ≡ Some r → get_or (ordered view n xs) (r.number - 1) e ≡ member r
    member_at i d r e l h =
        let within = number_bounds i d r l h in
        let back : suc (r.number - 1) ≡ r.number = omega arith in
        slice_index_or_ordered n xs sieve_once (r.number - 1) e (omega arith)
        ∙ ap (λ j. get_or (sieve view j xs) 0 e) back
        ∙ ap (λ l. get_or l 0 e) (sieve_at xs i d r l h (sieve_once r.number within.0 within.1))

  -- no row passes the test
  pub sieve_absent : (is : P → Bool) (j : ℕ) (xs : List X) → ((i : ℕ) (d : X) (r : Row P) → i < length xs → view (get_or xs i d) ≡ Some r → is r.key ≡ false) → present is (sieve view j xs) ≡ false
  sieve_absent is j [] h = refl
  sieve_absent is j (x ∷ xs) h =
      present_append is (numbered j (view x)) (sieve view j xs)
      ∙ cond-false _ _ _ (numbered_absent is j (view x) (λ r e. h 0 x r (omega arith) e))
      ∙ sieve_absent is j xs (λ i d r l e. h (suc i) d r (omega arith) e)

  pub ordered_absent : (is : P → Bool) (n : ℕ) (xs : List X) → ((i : ℕ) (d : X) (r : Row P) → i < length xs → view (get_or xs i d) ≡ Some r → is r.key ≡ false) → present is (ordered view n xs) ≡ false
  ordered_absent is zero xs h = refl
  ordered_absent is (suc n) xs h =
      present_append is (ordered view n xs) (sieve view (suc n) xs)
      ∙ cond-false _ _ _ (ordered_absent is n xs h)
      ∙ sieve_absent is (suc n) xs h

  -- Where every slot holds a row numbered from 1 to n, there are as many slots as members.
  ordered_empty : (n : ℕ) → length (ordered view n []) ≡ 0
  ordered_empty zero = refl
  ordered_empty (suc n) = omega (arith, length-append (ordered view n []) [], ordered_empty n)

  once_step : (n j : ℕ) → once (suc n) j ≡ once n j + cond (eqb j (suc n)) 1 0
  once_step n j = grind (arith, nat_tests)

  length_here : (j : ℕ) (x : X) (r : Row P) → view x ≡ Some r → length (numbered j (view x)) ≡ cond (eqb r.number j) 1 0
  length_here j x r h = ap (λ o. length (numbered j o)) h ∙ cond_both (eqb r.number j) (member r ∷ []) [] (λ l. length l ≡ cond (eqb r.number j) 1 0) (λ e. sym (ap (λ b. cond b 1 0) e)) (λ e. sym (ap (λ b. cond b 1 0) e))

  ordered_cons : (n : ℕ) (x : X) (xs : List X) (r : Row P) → view x ≡ Some r → length (ordered view n (x ∷ xs)) ≡ once n r.number + length (ordered view n xs)
  ordered_cons zero x xs r h = omega (arith, once_none r.number)
    where
      once_none : (j : ℕ) → once 0 j ≡ 0
      once_none j = grind (arith, nat_tests)
  ordered_cons (suc n) x xs r h =
      let whole = length-append (ordered view n (x ∷ xs)) (numbered (suc n) (view x) ++ sieve view (suc n) xs) in
      let inner = length-append (numbered (suc n) (view x)) (sieve view (suc n) xs) in
      let rest = length-append (ordered view n xs) (sieve view (suc n) xs) in
      omega (arith, ordered_cons n x xs r h, length_here (suc n) x r h, once_step n r.number)

  pub taken_count : (n : ℕ) (xs : List X) → ((i : ℕ) (d : X) → i < length xs → (r : Row P) × (view (get_or xs i d) ≡ Some r) × (1 ≤ r.number) × (r.number ≤ n)) → length (ordered view n xs) ≡ length xs
  taken_count n [] h = ordered_empty n
  taken_count n (x ∷ xs) h =
      let r = h 0 x (omega arith) in
      omega (arith, ordered_cons n x xs r.0 r.1, once_within n r.0.number r.2 r.3, taken_count n xs (λ i d l. h (suc i) d (omega arith)))

  -- no slot holds a row
  pub sieve_vacant : (j : ℕ) (xs : List X) → ((i : ℕ) (d : X) → i < length xs → view (get_or xs i d) ≡ None) → sieve view j xs ≡ []
  sieve_vacant j [] h = refl
  sieve_vacant j (x ∷ xs) h =
      let here : numbered j (view x) ≡ [] = ap (numbered j) (h 0 x (omega arith)) in
      λ t. here t ++ sieve_vacant j xs (λ i d l. h (suc i) d (omega arith)) t
