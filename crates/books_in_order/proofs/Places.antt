-- Where a key is, or belongs, among rows in key order. Assumes nothing.
use Rattle.std.proofs.Common.{◌≡◌, ℕ, ◌≤◌, true, List, length, get_or, Result, Ok, Err, Ordering, Less, Equal, Greater, sym, refl, ap, ◌∙◌, subst, ⊎_elim, arith}
use Rattle.std.specs.List.Sorted.{IsSearchInRange, IsBinarySearchResult, IsNonDecreasingBy}
use Rattle.std.specs.Ordering.{ordering_index}
use Rattle.std.proofs.lemmas.Bool.{cases_eq}
use Rattle.figures.specs.Accounts.{TotalOrder}
use Rattle.books.specs.Ledger.{is_equal}
use Rattle.books_in_order.specs.KeyOrder.{rises, Sought}
use Rattle.books_in_order.proofs.Rises.{from_rises}
use Rattle.books.specs.declared.rows.Row.{Row}

last_index : (o : Ordering) → ordering_index o ≤ 2
last_index Less = omega arith
last_index Equal = omega arith
last_index Greater = omega arith

module _ {P : Type 0} {order : P → P → Ordering} (lawful : TotalOrder order) (k : P) (rows : List (Row P)) (rise : rises order rows ≡ true) where
  -- of two keys the earlier compares with k no higher than the later
  no_higher : (x y : P) (o : Ordering) → order x y ≡ Less → order y k ≡ o → ordering_index (order x k) ≤ ordering_index o
  no_higher x y Less less e = omega (arith, ap ordering_index (lawful.transitive x y k less e))
  no_higher x y Equal less e = omega (arith, ap ordering_index (ap (order x) (sym (lawful.equal y k e)) ∙ less))
  no_higher x y Greater less e = last_index (order x k)

  comparisons_rise : IsNonDecreasingBy (λ row. ordering_index (order row.key k)) rows
  comparisons_rise i j d upto within =
      ⊎_elim
      (λ same. omega (arith, ap (λ m. ordering_index (order (get_or rows m d).key k)) same))
      (λ differ. no_higher _ _ _ (from_rises order rows rise i j d (omega arith, within)) refl)
      (cases_eq i j)

  -- a binary search ends at the key, or at the place where it belongs
  pub sought_from : (r : Result ℕ ℕ) → IsSearchInRange r (length rows) → IsBinarySearchResult (λ row. order row.key k) rows r → Sought order k rows r
  sought_from (Ok i) within found =
      (within, λ d. ap (λ x. is_equal (order k x)) (lawful.equal _ k (found d)) ∙ ap is_equal (lawful.same k))
  sought_from (Err p) within parted =
      let parts = parted comparisons_rise in
      (within, λ i d l. parts.0 i d (omega arith) l, λ i d from to. lawful.flips_back _ k (parts.1 i d from to))

  -- the same where the keys are compared by what answers as that order does
  pub sought_by : {compares : P → P → Ordering} → ((one other : P) → compares one other ≡ order one other) → (r : Result ℕ ℕ) → IsSearchInRange r (length rows) → IsBinarySearchResult (λ row. compares row.key k) rows r → Sought order k rows r
  sought_by same r within found =
      sought_from r within (subst (λ (o : P → P → Ordering). IsBinarySearchResult (λ row. o row.key k) rows r) (λ i one other. same one other i) found)
