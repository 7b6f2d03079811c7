-- The laws of ledgers: what is found after a member joins or its totals change. Assumes nothing.
use Rattle.std.proofs.Common.{◌≡◌, ℕ, zero, suc, ◌+◌, ◌<◌, Bool, true, false, cond, not, List, [], ◌∷◌, ◌++◌, map, length, get_or, set, is_some, Some, None, Ordering, Equal, sym, refl, ap, ◌∙◌, ⊎_elim, arith}
use Rattle.std.specs.Cmp.{Equal-is}
use Rattle.std.specs.Option.{option_map}
use Rattle.std.proofs.lemmas.Bool.{both_ways, and_parts, cases_Bool, cond-true, cond-false}
use Rattle.std.proofs.lemmas.Bool.Decides.{nat_tests}
use Rattle.figures.specs.Accounts.{TotalOrder}
use Rattle.books.specs.Ledger.{Member, is_equal, matches, present, number_from, totals, apart, total, newcomer, changed}

-- Of a test `is`, and functions f and s of the two totals.
module _ {P : Type 0} (is : P → Bool) (f s : ℕ → ℕ) where
  pub changed_absent : (ms : List (Member P)) → present is ms ≡ false → changed is f s ms ≡ ms
  changed_absent [] h = refl
  changed_absent (m ∷ ms) h = let ih = changed_absent ms in grind (arith, nat_tests)

  pub length_changed : (ms : List (Member P)) → length (changed is f s ms) ≡ length ms
  length_changed [] = refl
  length_changed (m ∷ ms) = let ih = length_changed ms in grind (arith, nat_tests)

  pub keys_changed : (ms : List (Member P)) → map (λ m. m.key) (changed is f s ms) ≡ map (λ m. m.key) ms
  keys_changed [] = refl
  keys_changed (m ∷ ms) = let ih = keys_changed ms in grind (arith, nat_tests)

  pub present_changed : (other : P → Bool) (ms : List (Member P)) → present other (changed is f s ms) ≡ present other ms
  present_changed other [] = refl
  present_changed other (m ∷ ms) = let ih = present_changed other ms in grind (arith, nat_tests)

  pub number_changed : (other : P → Bool) (n : ℕ) (ms : List (Member P)) → number_from n other (changed is f s ms) ≡ number_from n other ms
  number_changed other n [] = refl
  number_changed other n (m ∷ ms) = let ih = number_changed other (n + 1) ms in grind (arith, nat_tests)

  -- the totals of the member of that key are f and s of what they were
  pub totals_changed : (ms : List (Member P)) → totals is (changed is f s ms) ≡ option_map (λ t. (total (f t.0), total (s t.1))) (totals is ms)
  totals_changed [] = refl
  totals_changed (m ∷ ms) = let ih = totals_changed ms in grind (arith, nat_tests)

  -- and those of any other key stay
  pub totals_changed_other : (other : P → Bool) → ((k : P) → is k ≡ true → other k ≡ false) → (ms : List (Member P)) → totals other (changed is f s ms) ≡ totals other ms
  totals_changed_other other differ [] = refl
  totals_changed_other other differ (m ∷ ms) = let ih = totals_changed_other other differ ms in let d = differ m.key in grind (arith, nat_tests)

  -- to write f and s of the totals that stand there is to change them by f and s
  pub changed_by_totals : (a b : ℕ) (ms : List (Member P)) → totals is ms ≡ Some (a, b) → changed is (λ _. f a) (λ _. s b) ms ≡ changed is f s ms
  changed_by_totals a b [] h = refl
  changed_by_totals a b (m ∷ ms) h = let ih = changed_by_totals a b ms in grind (arith, nat_tests)

pub totals_present : {P : Type 0} (is : P → Bool) (ms : List (Member P)) → is_some (totals is ms) ≡ present is ms
totals_present is [] = refl
totals_present is (m ∷ ms) = let ih = totals_present is ms in grind (arith, nat_tests)

pub number_present : {P : Type 0} (is : P → Bool) (n : ℕ) (ms : List (Member P)) → is_some (number_from n is ms) ≡ present is ms
number_present is n [] = refl
number_present is n (m ∷ ms) = let ih = number_present is (n + 1) ms in grind (arith, nat_tests)

-- one member more, at the end
pub present_push : {P : Type 0} (is : P → Bool) (ms : List (Member P)) (m : Member P) → present is (ms ++ m ∷ []) ≡ cond (present is ms) true (is m.key)
present_push is [] m = grind (arith, nat_tests)
present_push is (x ∷ ms) m = let ih = present_push is ms m in grind (arith, nat_tests)

pub totals_push : {P : Type 0} (is : P → Bool) (ms : List (Member P)) (m : Member P) → totals is (ms ++ m ∷ []) ≡ cond (present is ms) (totals is ms) (cond (is m.key) (Some (m.first, m.second)) None)
totals_push is [] m = refl
totals_push is (x ∷ ms) m = let ih = totals_push is ms m in grind (arith, nat_tests)

pub number_push : {P : Type 0} (is : P → Bool) (n : ℕ) (ms : List (Member P)) (m : Member P) → number_from n is (ms ++ m ∷ []) ≡ cond (present is ms) (number_from n is ms) (cond (is m.key) (Some (n + length ms)) None)
number_push is n [] m = let e : n + 0 ≡ n = omega arith in ap (λ k. cond (is m.key) (Some k) None) (sym e)
number_push is n (x ∷ ms) m = let ih = number_push is (n + 1) ms m in let e : n + 1 + length ms ≡ n + suc (length ms) = omega arith in grind (arith, nat_tests)

pub present_at : {P : Type 0} (is : P → Bool) (ms : List (Member P)) (j : ℕ) (d : Member P) → j < length ms → is (get_or ms j d).key ≡ true → present is ms ≡ true
present_at is [] j d l h = absurd (omega arith)
present_at is (m ∷ ms) zero d l h = cond-true (is m.key) true (present is ms) h
present_at is (m ∷ ms) (suc j) d l h = let ih = present_at is ms j d (omega arith) h in grind (arith, nat_tests)

-- Under a total order of the keys, a test for a key passes that key alone.
module _ {P : Type 0} {order : P → P → Ordering} (lawful : TotalOrder order) where
  pub matches_self : (k : P) → matches order k k ≡ true
  matches_self k = ap is_equal (lawful.same k)

  is_equal_lem : (o : Ordering) → is_equal o ≡ true → o ≡ Equal
  is_equal_lem o h = (Equal-is o).0 h

  pub matches_equal : (k other : P) → matches order k other ≡ true → k ≡ other
  matches_equal k other h = lawful.equal k other (is_equal_lem (order k other) h)

  pub matches_differ : (k other : P) → (k ≡ other → ⊥) → matches order k other ≡ false
  matches_differ k other ne = ⊎_elim (λ yes'. absurd (ne (matches_equal k other yes'))) (λ h. h) (cases_Bool (matches order k other))

  pub matches_flip : (k other : P) → matches order k other ≡ false → matches order other k ≡ false
  matches_flip k other h = matches_differ other k (λ e. both_ways _ h (ap (matches order k) e ∙ matches_self k))

  -- two keys that differ are told apart by their tests
  pub tests_differ : (k other : P) → (k ≡ other → ⊥) → (x : P) → matches order k x ≡ true → matches order other x ≡ false
  tests_differ k other ne x h = matches_differ other x (λ e. ne (matches_equal k x h ∙ sym e))

  pub apart_push : (k : P) (ms : List (Member P)) → apart order ms ≡ true → present (matches order k) ms ≡ false → apart order (ms ++ newcomer k ∷ []) ≡ true
  apart_push k [] a h = refl
  apart_push k (m ∷ ms) a h =
      let pushed = present_push (matches order m.key) ms (newcomer k) in
      let flip = matches_flip k m.key in
      let ih = apart_push k ms in
      grind (arith, nat_tests)

  pub apart_changed : (is : P → Bool) (f s : ℕ → ℕ) (ms : List (Member P)) → apart order (changed is f s ms) ≡ apart order ms
  apart_changed is f s [] = refl
  apart_changed is f s (m ∷ ms) =
      let ih = apart_changed is f s ms in
      let kept = present_changed is f s (matches order m.key) ms in
      grind (arith, nat_tests)

  -- no member before the one at place j has its key
  head_other : (k : P) (m : Member P) (ms : List (Member P)) (j : ℕ) (d : Member P) → apart order (m ∷ ms) ≡ true → j < length ms → matches order k (get_or ms j d).key ≡ true → matches order k m.key ≡ false
  head_other k m ms j d a l h =
      matches_differ k m.key
      (λ e.
      let met : present (matches order m.key) ms ≡ true = present_at (matches order m.key) ms j d l (ap (λ x. matches order x (get_or ms j d).key) (sym e) ∙ h) in
      both_ways _ (ap not met) (and_parts _ _ a).0)

  pub totals_at : (k : P) (ms : List (Member P)) (j : ℕ) (d : Member P) → apart order ms ≡ true → j < length ms → matches order k (get_or ms j d).key ≡ true → totals (matches order k) ms ≡ Some ((get_or ms j d).first, (get_or ms j d).second)
  totals_at k [] j d a l h = absurd (omega arith)
  totals_at k (m ∷ ms) zero d a l h = cond-true (matches order k m.key) _ _ h
  totals_at k (m ∷ ms) (suc j) d a l h =
      cond-false (matches order k m.key) _ _ (head_other k m ms j d a (omega arith) h)
      ∙ totals_at k ms j d (and_parts _ _ a).1 (omega arith) h

  pub number_at : (k : P) (n : ℕ) (ms : List (Member P)) (j : ℕ) (d : Member P) → apart order ms ≡ true → j < length ms → matches order k (get_or ms j d).key ≡ true → number_from n (matches order k) ms ≡ Some (n + j)
  number_at k n [] j d a l h = absurd (omega arith)
  number_at k n (m ∷ ms) zero d a l h = cond-true (matches order k m.key) _ _ h ∙ ap Some (omega arith)
  number_at k n (m ∷ ms) (suc j) d a l h =
      cond-false (matches order k m.key) _ _ (head_other k m ms j d a (omega arith) h)
      ∙ number_at k (n + 1) ms j d (and_parts _ _ a).1 (omega arith) h
      ∙ ap Some (omega arith)

  pub changed_at : (k : P) (f s : ℕ → ℕ) (ms : List (Member P)) (j : ℕ) (d : Member P) → apart order ms ≡ true → j < length ms → matches order k (get_or ms j d).key ≡ true → changed (matches order k) f s ms ≡ set ms j (record { key = (get_or ms j d).key; first = total (f (get_or ms j d).first); second = total (s (get_or ms j d).second) })
  changed_at k f s [] j d a l h = absurd (omega arith)
  changed_at k f s (m ∷ ms) zero d a l h = cond-true (matches order k m.key) _ _ h
  changed_at k f s (m ∷ ms) (suc j) d a l h =
      cond-false (matches order k m.key) _ _ (head_other k m ms j d a (omega arith) h)
      ∙ ap (λ l. m ∷ l) (changed_at k f s ms j d (and_parts _ _ a).1 (omega arith) h)
