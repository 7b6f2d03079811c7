-- Books in key order: what a place found, a row put in and a row rewritten mean. Assumes nothing.
use Rattle.std.proofs.Common.{◌≡◌, ℕ, zero, suc, ◌+◌, ◌-◌, ◌<◌, ◌≤◌, min, true, false, List, [], ◌∷◌, ◌++◌, length, get_or, take, drop, set, Some, Ok, Err, Result, Ordering, Less, sym, refl, ap, ◌∙◌, subst, ⊎_elim, arith}
use Rattle.std.specs.List.{insert}
use Rattle.std.specs.Result.{is_ok}
use Rattle.std.proofs.lemmas.List.Edits.{length-insert, get_or-insert_below, get_or-insert_at, get_or-insert_above}
use Rattle.std.proofs.lemmas.List.{take-append-drop, length-take-le, get_or-take, get_or_default, get_or-set_same, get_or-set_other, length-set}
use Rattle.std.proofs.lemmas.Bool.{cases_lt, cases_eq, ltb-true, lt-ltb, le-ltb}
use Rattle.figures.specs.Accounts.{TotalOrder}
use Rattle.figures.specs.Limits.{most_members}
use Rattle.books.specs.Ledger.{is_equal, matches, present, apart, running_number, totals, roomy, newcomer, enrolled, written_in}
use Rattle.books_in_order.specs.InOrder.{keyed_capacity, keyed_ledger, KeyedSound}
use Rattle.books_in_order.specs.KeyOrder.{rises, Sought}
use Rattle.books.specs.Rows.{member, ordered, Once, with_totals, joining}
use Rattle.books.specs.declared.rows.Row.{Row}
use Rattle.books.proofs.Found.{found_present, found_number, found_totals, found_changed, found_once, found_apart}
use Rattle.books.proofs.Ledgers.{matches_equal, apart_push}
use Rattle.books.proofs.Numbering.{ordered_absent, length_members}
use Rattle.books_in_order.proofs.Rises.{Rising, from_rises, to_rises}
use Rattle.books.proofs.RowEdits.{more_once, more_ordered}

module _ {P : Type 0} {order : P → P → Ordering} (lawful : TotalOrder order) (k : P) (xs : List (Row P)) (p : ℕ) (sought : Sought order k xs (Err p)) where
  -- every row is below the key or above it
  differs : (i : ℕ) (d : Row P) → i < length xs → matches order k (get_or xs i d).key ≡ false
  differs i d l =
      ⊎_elim
      (λ before. ap is_equal (lawful.flips (get_or xs i d).key k (sought.1 i d before)))
      (λ after. ap is_equal (sought.2 i d after l))
      (cases_lt i p)

  pub sought_absent : (n : ℕ) → present (matches order k) (ordered Some n xs) ≡ false
  sought_absent n = ordered_absent Some (matches order k) n xs (λ i d r l e. ap (λ x. matches order k x.key) (held r (get_or xs i d) e) ∙ differs i d l)
    where
      held : (r x : Row P) → Some x ≡ Some r → r ≡ x
      held r x e = cc

  -- in a list with the row put in at p, whatever stands above p stood one lower
  module _ (row : Row P) (key : row.key ≡ k) (rising : Rising order xs) where
    at : ℕ → Row P → P
    at i d = (get_or (insert xs p row) i d).key

    shifted : (i : ℕ) (d : Row P) → p < i → at i d ≡ (get_or xs (i - 1) d).key
    unfolding at
    shifted i d h =
        let up : i ≡ i - 1 + 1 = omega arith in
        ap (λ j. (get_or (insert xs p row) j d).key) up ∙ ap (λ r. r.key) (get_or-insert_above xs p row d (i - 1) (omega arith) sought.0)

    here : (d : Row P) → at p d ≡ k
    unfolding at
    here d = ap (λ r. r.key) (get_or-insert_at xs p row d sought.0) ∙ key

    lower : (i : ℕ) (d : Row P) → i < p → at i d ≡ (get_or xs i d).key
    unfolding at
    lower i d h = ap (λ r. r.key) (get_or-insert_below xs p row d i h sought.0)

    through : {a b x y : P} → a ≡ x → b ≡ y → order x y ≡ Less → order a b ≡ Less
    through e f h = (λ i. order (e i) (f i)) ∙ h

    ascends : (i j : ℕ) (d : Row P) → i < j → j < length xs + 1 → order (at i d) (at j d) ≡ Less
    ascends i j d less long =
        ⊎_elim
        (λ i<. ⊎_elim
        (λ j<. through (lower i d i<) (lower j d j<) (rising i j d (less, omega (arith, sought.0))))
        (λ j≥. ⊎_elim
        (λ same. through (lower i d i<) (ap (λ m. at m d) same ∙ here d) (sought.1 i d i<))
        (λ past. through (lower i d i<) (shifted j d (omega arith)) (rising i (j - 1) d (omega arith, omega arith)))
        (cases_eq j p))
        (cases_lt j p))
        (λ i≥. ⊎_elim
        (λ same. through (ap (λ m. at m d) same ∙ here d) (shifted j d (omega arith)) (sought.2 (j - 1) d (omega arith) (omega arith)))
        (λ past. through (shifted i d (omega arith)) (shifted j d (omega arith)) (rising (i - 1) (j - 1) d (omega arith, omega arith)))
        (cases_eq i p))
        (cases_lt i p)

    pub rising_inserted : Rising order (insert xs p row)
    unfolding at
    rising_inserted i j d (less, long) = ascends i j d less (omega (arith, length-insert xs p row sought.0))

-- The row of a new member was put in at its place.
module _ {P : Type 0} {order : P → P → Ordering} (lawful : TotalOrder order) (k : P) (slots slots' : List (Row P)) (n p : ℕ) (sound : KeyedSound order slots n) (sought : Sought order k (take n slots) (Err p)) (room : n < keyed_capacity slots) (row : Row P) (is : row ≡ joining k (n + 1)) (long : length slots' ≡ length slots) (put : take (n + 1) slots' ≡ insert (take n slots) p row) where
  whole : take n slots ≡ take p (take n slots) ++ ([] ++ drop p (take n slots))
  whole = sym (take-append-drop p (take n slots))

  each_split : Once Some n (take p (take n slots) ++ ([] ++ drop p (take n slots)))
  each_split = subst (Once Some n) whole sound.each

  number : row.number ≡ n + 1
  number = ap (λ r. r.number) is

  members_are : ordered Some (n + 1) (take (n + 1) slots') ≡ ordered Some n (take n slots) ++ newcomer k ∷ []
  members_are =
      ap (ordered Some (n + 1)) put
      ∙ more_ordered Some n (take p (take n slots)) [] (drop p (take n slots)) row row (λ j. refl) refl number each_split
      ∙ (λ i. ordered Some n (sym whole i) ++ member (is i) ∷ [])

  pub added_ledger : keyed_ledger slots' (n + 1) ≡ enrolled k (keyed_ledger slots n)
  added_ledger = λ i. record { capacity = min (long i) most_members; members = members_are i }

  pub added_sound : KeyedSound order slots' (n + 1)
  added_sound = record {
    within = omega (arith, ap (λ m. min m most_members) long);
    each = subst (Once Some (n + 1)) (sym put) (more_once Some n (take p (take n slots)) [] (drop p (take n slots)) row row (λ j. refl) refl number each_split);
    rising = ap (rises order) put ∙ to_rises order _ (rising_inserted lawful k (take n slots) p sought row (ap (λ r. r.key) is) (from_rises order _ sound.rising));
    alone = ap (apart order) members_are ∙ apart_push lawful k (ordered Some n (take n slots)) sound.alone (sought_absent lawful k (take n slots) p sought n);
  }

a_row : {X : Type 0} (xs : List X) → 0 < length xs → X
a_row [] h = absurd (omega arith)
a_row (x ∷ xs) h = x

-- The row of the key was read at its place.
module _ {P : Type 0} {order : P → P → Ordering} (lawful : TotalOrder order) (k : P) (slots : List (Row P)) (n i : ℕ) (sound : KeyedSound order slots n) (sought : Sought order k (take n slots) (Ok i)) where
  pub place_in_use : i < n
  place_in_use = omega (arith, sought.0, length-take-le n slots (omega (arith, sound.within)))

  pub place_within : i < length slots
  place_within = omega (arith, place_in_use, sound.within)

  module _ (row : Row P) (read : row ≡ get_or slots i row) where
    held : Some (get_or (take n slots) i row) ≡ Some row
    held = ap Some (get_or-take n slots i row place_in_use ∙ sym read)

    matched : matches order k row.key ≡ true
    matched = ap (λ r. matches order k r.key) (read ∙ sym (get_or-take n slots i row place_in_use)) ∙ sought.1 row

    pub read_key : Some row.key ≡ Some k
    read_key = ap Some (sym (matches_equal lawful k row.key matched))

    pub read_number : Some row.number ≡ running_number (matches order k) (keyed_ledger slots n).members
    read_number = found_number Some lawful n (take n slots) sound.each sound.alone k i row row sought.0 held matched

    pub read_totals : Some (row.first, row.second) ≡ totals (matches order k) (keyed_ledger slots n).members
    read_totals = found_totals Some lawful n (take n slots) sound.each sound.alone k i row row sought.0 held matched

    read_present : present (matches order k) (keyed_ledger slots n).members ≡ true
    read_present = found_present Some lawful n (take n slots) sound.each sound.alone k i row row sought.0 held matched

  -- the same with no row at hand: the slots are not empty
  pub sought_present : present (matches order k) (keyed_ledger slots n).members ≡ true
  sought_present =
      let row = get_or slots i (a_row slots (omega (arith, place_within))) in
      read_present row (get_or_default slots i _ row place_within)

take_set_within : {X : Type 0} (n i : ℕ) (xs : List X) (x : X) → take n (set xs i x) ≡ set (take n xs) i x
take_set_within zero i xs x = refl
take_set_within (suc n) i [] x = refl
take_set_within (suc n) zero (y ∷ xs) x = refl
take_set_within (suc n) (suc i) (y ∷ xs) x = ap (λ l. y ∷ l) (take_set_within n i xs x)

-- The row of the key got other totals.
module _ {P : Type 0} {order : P → P → Ordering} (lawful : TotalOrder order) (k : P) (slots : List (Row P)) (n i f s : ℕ) (sound : KeyedSound order slots n) (sought : Sought order k (take n slots) (Ok i)) (d w : Row P) (put : w ≡ with_totals (get_or slots i d) f s) where
  old : Row P
  old = get_or (take n slots) i d

  new : Row P
  new = with_totals old f s

  rows_set : take n (set slots i w) ≡ set (take n slots) i new
  unfolding old new
  rows_set =
      ap (λ r. take n (set slots i r)) put
      ∙ take_set_within n i slots (with_totals (get_or slots i d) f s)
      ∙ ap (λ r. set (take n slots) i (with_totals r f s)) (sym (get_or-take n slots i d (place_in_use lawful k slots n i sound sought)))

  capacity_same : keyed_capacity (set slots i w) ≡ keyed_capacity slots
  capacity_same = ap (λ m. min m most_members) (length-set slots i w)

  keys_kept : (j : ℕ) (e : Row P) → j < length (take n slots) → (get_or (set (take n slots) i new) j e).key ≡ (get_or (take n slots) j e).key
  unfolding old new
  keys_kept j e l =
      ⊎_elim
      (λ same.
      ap (λ m. (get_or (set (take n slots) i new) m e).key) same
      ∙ ap (λ r. r.key) (get_or-set_same (take n slots) i new e sought.0)
      ∙ ap (λ r. r.key) (get_or_default (take n slots) i d e sought.0)
      ∙ ap (λ m. (get_or (take n slots) m e).key) (sym same))
      (λ other. ap (λ r. r.key) (get_or-set_other (take n slots) i j new e other))
      (cases_eq j i)

  rising_kept : Rising order (set (take n slots) i new)
  rising_kept j m e (less, long) =
      let same = length-set (take n slots) i new in
      (λ t. order (keys_kept j e (omega arith) t) (keys_kept m e (omega arith) t)) ∙ from_rises order _ sound.rising j m e (less, omega arith)

  pub written_ledger : keyed_ledger (set slots i w) n ≡ written_in (matches order k) f s (keyed_ledger slots n)
  unfolding old new
  written_ledger =
      let members = ap (ordered Some n) rows_set ∙ found_changed Some lawful n (take n slots) sound.each sound.alone k i d old sought.0 refl (sought.1 d) (λ _. f) (λ _. s) new new refl refl refl refl refl in
      λ t. record { capacity = capacity_same t; members = members t }

  pub written_sound : KeyedSound order (set slots i w) n
  unfolding old new
  written_sound = record {
    within = omega (arith, sound.within, capacity_same);
    each = subst (Once Some n) (sym rows_set) (found_once Some lawful n (take n slots) sound.each sound.alone k i d old sought.0 refl (sought.1 d) (λ _. f) (λ _. s) new new refl refl refl refl refl);
    rising = ap (rises order) rows_set ∙ to_rises order _ rising_kept;
    alone = ap (λ l. apart order (ordered Some n l)) rows_set ∙ found_apart Some lawful n (take n slots) sound.each sound.alone k i d old sought.0 refl (sought.1 d) (λ _. f) (λ _. s) new new refl refl refl refl refl;
  }

-- whether there is room, by the count of rows
module _ {P : Type 0} {order : P → P → Ordering} (slots : List (Row P)) (n : ℕ) (sound : KeyedSound order slots n) where
  pub in_order_count : length (keyed_ledger slots n).members ≡ n
  in_order_count = length_members Some n (take n slots) sound.each

  pub has_room : roomy (keyed_ledger slots n) ≡ true → n < keyed_capacity slots
  has_room h = omega (arith, ltb-true _ _ h, in_order_count)

  pub room_left : n < keyed_capacity slots → roomy (keyed_ledger slots n) ≡ true
  room_left h = lt-ltb _ _ (omega (arith, in_order_count))

  pub has_no_room : keyed_capacity slots ≤ n → roomy (keyed_ledger slots n) ≡ false
  has_no_room h = le-ltb _ _ (omega (arith, in_order_count))

-- of a place that came to nothing
pub sought_nowhere : {P : Type 0} {order : P → P → Ordering} → TotalOrder order → (k : P) (xs : List (Row P)) (sought : Result ℕ ℕ) → Sought order k xs sought → is_ok sought ≡ false → (n : ℕ) → present (matches order k) (ordered Some n xs) ≡ false
sought_nowhere lawful k xs (Ok i) found refused n = absurd (cc)
sought_nowhere lawful k xs (Err p) found refused n = sought_absent lawful k xs p found n
