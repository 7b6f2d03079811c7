-- From a row that has a key, or from none having it, to what the book's meaning answers. Assumes nothing.
use Rattle.std.proofs.Common.{◌≡◌, ℕ, ◌+◌, ◌-◌, ◌<◌, ◌≤◌, Bool, true, false, List, length, get_or, set, is_some, Some, None, Option, Ordering, sym, refl, ap, ◌∙◌, arith}
use Rattle.std.proofs.lemmas.Bool.{false≢true}
use Rattle.figures.specs.Accounts.{TotalOrder}
use Rattle.books.specs.Ledger.{Member, matches, present, running_number, totals, apart, total, changed}
use Rattle.books.specs.Rows.{member, ordered, Once}
use Rattle.books.specs.declared.rows.Row.{Row}
use Rattle.books.proofs.Ledgers.{present_at, totals_at, number_at, changed_at, totals_present, number_present, apart_changed}
use Rattle.books.proofs.Numbering.{length_members, number_bounds, member_at}
use Rattle.books.proofs.RowEdits.{rewritten_once, rewritten_ordered}

none_from : {T : Type 0} (o : Option T) → is_some o ≡ false → None ≡ o
none_from None h = refl
none_from (Some x) h = absurd (false≢true (sym h))

-- no member of that key
module _ {P : Type 0} (is : P → Bool) (ms : List (Member P)) (none : present is ms ≡ false) where
  pub number_none : None ≡ running_number is ms
  number_none = none_from (running_number is ms) (number_present is 1 ms ∙ none)

  pub totals_none : None ≡ totals is ms
  totals_none = none_from (totals is ms) (totals_present is ms ∙ none)

module _ {X P : Type 0} (view : X → Option (Row P)) {order : P → P → Ordering} (lawful : TotalOrder order) (n : ℕ) (xs : List X) (each : Once view n xs) (alone : apart order (ordered view n xs) ≡ true) where
  -- the row r at i has the key k
  module _ (k : P) (i : ℕ) (d : X) (r : Row P) (l : i < length xs) (held : view (get_or xs i d) ≡ Some r) (is : matches order k r.key ≡ true) where
    within : (1 ≤ r.number) × (r.number ≤ n)
    within = number_bounds view n xs each i d r l held

    place : r.number - 1 < length (ordered view n xs)
    place = let w = within in omega (arith, length_members view n xs each)

    stands : get_or (ordered view n xs) (r.number - 1) (member r) ≡ member r
    stands = member_at view n xs each i d r (member r) l held

    matched : matches order k (get_or (ordered view n xs) (r.number - 1) (member r)).key ≡ true
    matched = ap (λ m. matches order k m.key) stands ∙ is

    pub found_present : present (matches order k) (ordered view n xs) ≡ true
    found_present = present_at (matches order k) (ordered view n xs) (r.number - 1) (member r) place matched

    pub found_number : Some r.number ≡ running_number (matches order k) (ordered view n xs)
    found_number =
        let w = within in
        let back : r.number ≡ 1 + (r.number - 1) = omega arith in
        ap Some back ∙ sym (number_at lawful k 1 (ordered view n xs) (r.number - 1) (member r) alone place matched)

    pub found_totals : Some (r.first, r.second) ≡ totals (matches order k) (ordered view n xs)
    found_totals = sym (totals_at lawful k (ordered view n xs) (r.number - 1) (member r) alone place matched ∙ ap (λ m. Some (m.first, m.second)) stands)

    -- the row gets other totals
    module _ (f s : ℕ → ℕ) (x : X) (w : Row P) (holds : view x ≡ Some w) (key : w.key ≡ r.key) (number : w.number ≡ r.number) (first : w.first ≡ total (f r.first)) (second : w.second ≡ total (s r.second)) where
      pub found_changed : ordered view n (set xs i x) ≡ changed (matches order k) f s (ordered view n xs)
      found_changed =
          let rewritten : member w ≡ record { key = r.key; first = total (f r.first); second = total (s r.second) } = λ t. record { key = key t; first = first t; second = second t } in
          rewritten_ordered view n xs i d x r w l held holds number each
          ∙ ap (λ j. set (ordered view n xs) (j - 1) (member w)) number
          ∙ ap (set (ordered view n xs) (r.number - 1)) rewritten
          ∙ sym (changed_at lawful k f s (ordered view n xs) (r.number - 1) (member r) alone place matched ∙ ap (λ m. set (ordered view n xs) (r.number - 1) (record { key = m.key; first = total (f m.first); second = total (s m.second) })) stands)

      pub found_once : Once view n (set xs i x)
      found_once = rewritten_once view n xs i d x r w l held holds number each

      pub found_apart : apart order (ordered view n (set xs i x)) ≡ true
      found_apart = ap (apart order) found_changed ∙ apart_changed lawful (matches order k) f s (ordered view n xs) ∙ alone
