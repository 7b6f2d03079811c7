-- Rows in key order, by their places. Assumes nothing.
use Rattle.std.proofs.Common.{◌≡◌, ℕ, zero, suc, ◌<◌, true, List, [], ◌∷◌, length, get_or, Ordering, Less, Equal, Greater, refl, ap, arith}
use Rattle.std.specs.Ordering.{is_lt}
use Rattle.std.proofs.lemmas.Bool.{and_parts, and_from, false≢true}
use Rattle.books_in_order.specs.KeyOrder.{below, rises}
use Rattle.books.specs.declared.rows.Row.{Row}

abbrev pub Rising : {P : Type 0} → (P → P → Ordering) → List (Row P) → Type 0
Rising {P} order rows = (i j : ℕ) (d : Row P) → (i < j) × (j < length rows) → order (get_or rows i d).key (get_or rows j d).key ≡ Less

less : (o : Ordering) → is_lt o ≡ true → o ≡ Less
less Less h = refl
less Equal h = absurd (false≢true h)
less Greater h = absurd (false≢true h)

module _ {P : Type 0} (order : P → P → Ordering) where
  from_below : (k : P) (rows : List (Row P)) → below order k rows ≡ true → (j : ℕ) (d : Row P) → j < length rows → order k (get_or rows j d).key ≡ Less
  from_below k [] h j d l = absurd (omega arith)
  from_below k (r ∷ rs) h zero d l = less _ (and_parts _ _ h).0
  from_below k (r ∷ rs) h (suc j) d l = from_below k rs (and_parts _ _ h).1 j d (omega arith)

  to_below : (k : P) (rows : List (Row P)) → ((j : ℕ) (d : Row P) → j < length rows → order k (get_or rows j d).key ≡ Less) → below order k rows ≡ true
  to_below k [] h = refl
  to_below k (r ∷ rs) h = and_from _ _ (ap is_lt (h 0 r (omega arith))) (to_below k rs (λ j d l. h (suc j) d (omega arith)))

  pub from_rises : (rows : List (Row P)) → rises order rows ≡ true → Rising order rows
  from_rises [] h i j d (a, b) = absurd (omega arith)
  from_rises (r ∷ rs) h i zero d (a, b) = absurd (omega arith)
  from_rises (r ∷ rs) h zero (suc j) d (a, b) = from_below r.key rs (and_parts _ _ h).0 j d (omega arith)
  from_rises (r ∷ rs) h (suc i) (suc j) d (a, b) = from_rises rs (and_parts _ _ h).1 i j d (omega arith, omega arith)

  pub to_rises : (rows : List (Row P)) → Rising order rows → rises order rows ≡ true
  to_rises [] h = refl
  to_rises (r ∷ rs) h = and_from _ _ (to_below r.key rs (λ j d l. h 0 (suc j) d (omega arith, omega arith))) (to_rises rs (λ i j d l. h (suc i) (suc j) d (omega (arith, l.0), omega (arith, l.1))))
