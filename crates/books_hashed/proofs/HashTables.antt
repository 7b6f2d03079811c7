-- Hash tables: what the end of a probe, a row put in and a row rewritten mean. Assumes nothing.
use Rattle.std.proofs.Common.{◌≡◌, ℕ, suc, ◌+◌, ◌%◌, ◌<◌, ◌≤◌, min, true, false, List, [], ◌∷◌, ◌++◌, length, get_or, take, drop, set, Some, None, Option, Ordering, sym, refl, ap, ◌∙◌, subst, ⊎_elim, mod-lt, arith}
use Rattle.std.specs.Option.{option_map}
use Rattle.std.proofs.lemmas.List.{get_or_default, get_or_past, get_or-set_same, get_or-set_other, length-set, set_split, set-get_or}
use Rattle.std.proofs.lemmas.Bool.{cases_lt, cases_eq, cases_Bool, eq-eqb, ltb-true, lt-ltb, le-ltb}
use Rattle.std.proofs.lemmas.Bool.Decides.{nat_tests}
use Rattle.figures.specs.Accounts.{TotalOrder}
use Rattle.figures.specs.Limits.{most_members}
use Rattle.books.specs.Ledger.{matches, present, apart, running_number, totals, roomy, newcomer, enrolled, written_in}
use Rattle.books_hashed.specs.Hashed.{held, table_capacity, table_ledger, TableSound}
use Rattle.books_hashed.specs.Probing.{key_at, probe_from, probe_for, found_at, lands_at, Settled}
use Rattle.books.specs.Rows.{member, ordered, once, Once, with_totals, joining}
use Rattle.books_hashed.specs.declared.probing.Probe.{Probe}
use Rattle.books_hashed.specs.declared.probing.Probe.TheVariants.{Found, Free, Full}
use Rattle.books.specs.declared.rows.Row.{Row}
use Rattle.books.proofs.Found.{found_present, found_number, found_totals, found_changed, found_once, found_apart}
use Rattle.books.proofs.Ledgers.{matches_self, matches_equal, apart_push}
use Rattle.books.proofs.Numbering.{ordered_absent, length_members, number_bounds, taken_count, sieve_vacant}
use Rattle.books_hashed.proofs.Probes.{found_at_lem, found_holds, free_vacant, free_within, full_taken, probe_same, keeps_found, lands_free, none_some, full_free, free_found}
use Rattle.books.proofs.RowEdits.{more_once, more_ordered}

-- a slot that shows a key holds a row with it
row_of : {P : Type 0} (slot : Option (Row P)) (k : P) → option_map (λ r. r.key) slot ≡ Some k → (r : Row P) × (slot ≡ Some r) × (r.key ≡ k)
row_of None k h = absurd (none_some h)
row_of (Some r) k h = (r, refl, same h)
  where
    same : Some r.key ≡ Some k → r.key ≡ k
    same h = cc

no_row : {P : Type 0} (slot : Option (Row P)) → option_map (λ r. r.key) slot ≡ None → slot ≡ None
no_row None h = refl
no_row (Some r) h = absurd (none_some (sym h))

module _ {P : Type 0} {order : P → P → Ordering} (lawful : TotalOrder order) (spread : P → ℕ) (slots : List (Option (Row P))) where
  within_from : (i : ℕ) (r : Row P) → get_or slots i None ≡ Some r → i < length slots
  within_from i r h = ⊎_elim (λ l. l) (λ past. absurd (none_some (sym (get_or_past slots i None past) ∙ h))) (cases_lt i (length slots))

  -- the slot that a probe found
  pub found_row : (k : P) (i : ℕ) → probe_for order spread k slots ≡ Found i → (r : Row P) × (get_or slots i None ≡ Some r) × (matches order k r.key ≡ true) × (i < length slots)
  found_row k i e =
      let f = found_holds (matches order k) (key_at slots) (length slots) _ _ i e in
      let r = row_of (get_or slots i None) f.0 f.1 in
      (r.0, r.1, ap (matches order k) r.2 ∙ f.2, within_from i r.0 r.1)

  some_slots : (k : P) (i : ℕ) → probe_for order spread k slots ≡ Free i → 0 < length slots
  some_slots k i e =
      ⊎_elim
      (λ none.
      let zero_slots : length slots ≡ 0 = omega arith in
      absurd (full_free (sym (ap (λ n. probe_from (matches order k) (key_at slots) (length slots) (spread k % length slots) n) zero_slots) ∙ e)))
      (λ some. omega arith)
      (cases_lt (length slots) 1)

  pub free_inside : (k : P) (i : ℕ) → probe_for order spread k slots ≡ Free i → i < length slots
  free_inside k i e = free_within (matches order k) (key_at slots) (length slots) _ _ i (mod-lt (spread k) (some_slots k i e)) e

  pub free_empty : (k : P) (i : ℕ) → probe_for order spread k slots ≡ Free i → get_or slots i None ≡ None
  free_empty k i e = no_row _ (free_vacant (matches order k) (key_at slots) (length slots) _ _ i e)

  module _ (settled : Settled order spread slots) where
    settled_at : (i : ℕ) (k : P) → key_at slots i ≡ Some k → probe_for order spread k slots ≡ Found i
    settled_at i k h = found_at_lem i _ (sym (ap (lands_at order spread slots i) h) ∙ settled i)

    -- where the probe did not find the key, no slot has it
    pub probe_absent : (k : P) (n : ℕ) → ((i : ℕ) → probe_for order spread k slots ≡ Found i → ⊥) → present (matches order k) (ordered held n slots) ≡ false
    probe_absent k n none =
        ordered_absent held (matches order k) n slots
        (λ i d r l e.
        let row : get_or slots i None ≡ Some r = get_or_default slots i None d l ∙ e in
        ⊎_elim
        (λ met. absurd (none i (ap (λ x. probe_for order spread x slots) (matches_equal lawful k r.key met) ∙ settled_at i r.key (ap (option_map (λ x. x.key)) row))))
        (λ other. other)
        (cases_Bool (matches order k r.key)))

  -- where the probe met no free slot, there is none
  pub full_table : (k : P) (n : ℕ) → Once held n slots → probe_for order spread k slots ≡ Full → length slots ≤ n
  full_table k n each e =
      ⊎_elim
      (λ none. omega arith)
      (λ some.
      let taken : (v : ℕ) → v < length slots → key_at slots v ≡ None → ⊥ = λ v w. full_taken (matches order k) (key_at slots) (length slots) _ (length slots) v (mod-lt (spread k) (omega arith)) w e (λ ahead. omega arith) (λ behind. omega arith) in
      omega (
        arith,
        length_members held n slots each,
        taken_count held n slots (λ i d l.
            let row = holds_row (get_or slots i None) (λ none. taken i l (ap (option_map (λ x. x.key)) none)) in
            let same : get_or slots i d ≡ Some row.0 = get_or_default slots i d None l ∙ row.1 in
            let bounds = number_bounds held n slots each i d row.0 l same in
            (row.0, same, bounds.0, bounds.1)),
      ))
      (cases_lt (length slots) 1)
    where
      holds_row : (slot : Option (Row P)) → (slot ≡ None → ⊥) → (r : Row P) × (slot ≡ Some r)
      holds_row None h = absurd (h refl)
      holds_row (Some r) h = (r, refl)

  module _ (n : ℕ) (sound : TableSound order spread slots n) where
    pub table_count : length (table_ledger slots n).members ≡ n
    table_count = length_members held n slots sound.each

    pub table_room : roomy (table_ledger slots n) ≡ true → n < table_capacity slots
    table_room h = omega (arith, ltb-true _ _ h, table_count)

    pub table_room_left : n < table_capacity slots → roomy (table_ledger slots n) ≡ true
    table_room_left h = lt-ltb _ _ (omega (arith, table_count))

    pub table_no_room : table_capacity slots ≤ n → roomy (table_ledger slots n) ≡ false
    table_no_room h = le-ltb _ _ (omega (arith, table_count))

    -- the row of the key was read where the probe found it
    module _ (k : P) (i : ℕ) (r : Row P) (found : probe_for order spread k slots ≡ Found i) (row : get_or slots i None ≡ Some r) where
      key_met : matches order k r.key ≡ true
      key_met =
          let f = found_row k i found in
          ap (λ x. matches order k x.key) (same f.0 (sym row ∙ f.1)) ∙ f.2
        where
          same : (x : Row P) → Some r ≡ Some x → r ≡ x
          same x h = cc

      inside : i < length slots
      inside = within_from i r row

      pub table_present : present (matches order k) (table_ledger slots n).members ≡ true
      table_present = found_present held lawful n slots sound.each sound.alone k i None r inside row key_met

      pub table_number : Some r.number ≡ running_number (matches order k) (table_ledger slots n).members
      table_number = found_number held lawful n slots sound.each sound.alone k i None r inside row key_met

      pub table_totals : Some (r.first, r.second) ≡ totals (matches order k) (table_ledger slots n).members
      table_totals = found_totals held lawful n slots sound.each sound.alone k i None r inside row key_met

    module _ (k : P) (i : ℕ) (found : probe_for order spread k slots ≡ Found i) where
      pub probe_present : present (matches order k) (table_ledger slots n).members ≡ true
      probe_present = let f = found_row k i found in table_present k i f.0 found f.1

      -- of the slot that was read
      pub slot_number : (o : Option (Row P)) → o ≡ get_or slots i None → option_map (λ r. r.number) o ≡ running_number (matches order k) (table_ledger slots n).members
      slot_number o read = let f = found_row k i found in ap (option_map (λ r. r.number)) (read ∙ f.1) ∙ table_number k i f.0 found f.1

      pub slot_key : (o : Option (Row P)) → o ≡ get_or slots i None → option_map (λ r. r.key) o ≡ option_map (λ r. k) o
      slot_key o read =
          let f = found_row k i found in
          ap (option_map (λ r. r.key)) (read ∙ f.1) ∙ ap Some (sym (matches_equal lawful k f.0.key f.2)) ∙ sym (ap (option_map (λ r. k)) (read ∙ f.1))

      pub slot_totals : (o : Option (Row P)) → o ≡ get_or slots i None → option_map (λ r. (r.first, r.second)) o ≡ totals (matches order k) (table_ledger slots n).members
      slot_totals o read = let f = found_row k i found in ap (option_map (λ r. (r.first, r.second))) (read ∙ f.1) ∙ table_totals k i f.0 found f.1

-- the probe over keys and a number of slots
abbrev probe_over : {P : Type 0} → (P → P → Ordering) → (P → ℕ) → P → (ℕ → Option P) → ℕ → Probe
probe_over order spread k keys m = probe_from (matches order k) keys m (spread k % m) m

found_here : (i : ℕ) (o : Probe) → o ≡ Found i → found_at i o ≡ true
found_here i o e = ap (found_at i) e ∙ eq-eqb i i refl

-- The row of a new member was put into the slot where its probe ended.
module _ {P : Type 0} {order : P → P → Ordering} (lawful : TotalOrder order) (spread : P → ℕ) (k : P) (slots slots' : List (Option (Row P))) (n i : ℕ) (sound : TableSound order spread slots n) (free : probe_for order spread k slots ≡ Free i) (room : n < table_capacity slots) (row : Row P) (is : row ≡ joining k (n + 1)) (put : slots' ≡ set slots i (Some row)) where
  new_inside : i < length slots
  new_inside = free_inside lawful spread slots k i free

  new_empty : get_or slots i None ≡ None
  new_empty = free_empty lawful spread slots k i free

  new_long : length slots' ≡ length slots
  new_long = ap length put ∙ length-set slots i (Some row)

  new_key : key_at slots' i ≡ Some k
  new_key = ap (λ l. key_at l i) put ∙ ap (option_map (λ r. r.key)) (get_or-set_same slots i (Some row) None new_inside) ∙ ap (λ r. Some r.key) is

  new_others : (p : ℕ) → (p ≡ i → ⊥) → key_at slots' p ≡ key_at slots p
  new_others p ne = ap (λ l. key_at l p) put ∙ ap (option_map (λ r. r.key)) (get_or-set_other slots i p (Some row) None ne)

  was_vacant : key_at slots i ≡ None
  was_vacant = ap (option_map (λ r. r.key)) new_empty

  over_new : (x : P) → probe_for order spread x slots' ≡ probe_over order spread x (key_at slots') (length slots)
  over_new x = ap (λ m. probe_over order spread x (key_at slots') m) new_long

  lands_here : probe_for order spread k slots' ≡ Found i
  lands_here = over_new k ∙ lands_free (matches order k) (key_at slots) (key_at slots') (length slots) i was_vacant new_others k new_key (matches_self lawful k) _ _ free

  lands_still : (p : ℕ) (x : P) → key_at slots p ≡ Some x → probe_for order spread x slots' ≡ Found p
  lands_still p x h =
      over_new x
      ∙ keeps_found (matches order x) (key_at slots) (key_at slots') (length slots) i was_vacant new_others _ _ p (settled_at lawful spread slots sound.settled p x h)

  settled_new : Settled order spread slots'
  settled_new p =
      ⊎_elim
      (λ here.
      ap (λ q. lands_at order spread slots' q (key_at slots' q)) here
      ∙ ap (lands_at order spread slots' i) new_key
      ∙ found_here i _ lands_here)
      (λ away. ap (lands_at order spread slots' p) (new_others p away) ∙ by_key (key_at slots p) refl)
      (cases_eq p i)
    where
      by_key : (o : Option P) → key_at slots p ≡ o → lands_at order spread slots' p (key_at slots p) ≡ true
      by_key None h = ap (lands_at order spread slots' p) h
      by_key (Some x) h = ap (lands_at order spread slots' p) h ∙ found_here p _ (lands_still p x h)

  split_old : slots ≡ take i slots ++ ((None ∷ []) ++ drop (suc i) slots)
  split_old = sym (set-get_or slots i None) ∙ set_split slots i (get_or slots i None) new_inside ∙ ap (λ s. take i slots ++ (s ∷ drop (suc i) slots)) new_empty

  split_new : slots' ≡ take i slots ++ (Some row ∷ drop (suc i) slots)
  split_new = put ∙ set_split slots i (Some row) new_inside

  each_old : Once held n (take i slots ++ ((None ∷ []) ++ drop (suc i) slots))
  each_old = subst (Once held n) split_old sound.each

  new_number : row.number ≡ n + 1
  new_number = ap (λ r. r.number) is

  new_members : ordered held (n + 1) slots' ≡ ordered held n slots ++ newcomer k ∷ []
  new_members =
      ap (ordered held (n + 1)) split_new
      ∙ more_ordered held n (take i slots) (None ∷ []) (drop (suc i) slots) (Some row) row (λ j. refl) refl new_number each_old
      ∙ (λ t. ordered held n (sym split_old t) ++ member (is t) ∷ [])

  new_absent : present (matches order k) (ordered held n slots) ≡ false
  new_absent = probe_absent lawful spread slots sound.settled k n (λ q e. free_found (sym free ∙ e))

  pub table_added : table_ledger slots' (n + 1) ≡ enrolled k (table_ledger slots n)
  table_added = λ t. record { capacity = min (new_long t) most_members; members = new_members t }

  pub table_added_sound : TableSound order spread slots' (n + 1)
  table_added_sound = record {
    within = omega (arith, ap (λ m. min m most_members) new_long);
    each = subst (Once held (n + 1)) (sym split_new) (more_once held n (take i slots) (None ∷ []) (drop (suc i) slots) (Some row) row (λ j. refl) refl new_number each_old);
    settled = settled_new;
    alone = ap (apart order) new_members ∙ apart_push lawful k (ordered held n slots) sound.alone new_absent;
  }

-- The row of the key got other totals.
module _ {P : Type 0} {order : P → P → Ordering} (lawful : TotalOrder order) (spread : P → ℕ) (k : P) (slots slots' : List (Option (Row P))) (n i f s : ℕ) (sound : TableSound order spread slots n) (found : probe_for order spread k slots ≡ Found i) (put : (r : Row P) → get_or slots i None ≡ Some r → slots' ≡ set slots i (Some (with_totals r f s))) where
  old_row : Row P
  old_row = (found_row lawful spread slots k i found).0

  old_held : get_or slots i None ≡ Some old_row
  unfolding old_row
  old_held = (found_row lawful spread slots k i found).1

  old_met : matches order k old_row.key ≡ true
  unfolding old_row
  old_met = (found_row lawful spread slots k i found).2

  old_inside : i < length slots
  old_inside = (found_row lawful spread slots k i found).3

  rewritten : slots' ≡ set slots i (Some (with_totals old_row f s))
  rewritten = put old_row old_held

  same_long : length slots' ≡ length slots
  same_long = ap length rewritten ∙ length-set slots i _

  same_keys : (p : ℕ) → key_at slots' p ≡ key_at slots p
  same_keys p =
      ap (λ l. key_at l p) rewritten
      ∙ ⊎_elim
      (λ here.
      ap (λ q. key_at (set slots i (Some (with_totals old_row f s))) q) here
      ∙ ap (option_map (λ r. r.key)) (get_or-set_same slots i (Some (with_totals old_row f s)) None old_inside)
      ∙ sym (ap (λ q. key_at slots q) here ∙ ap (option_map (λ r. r.key)) old_held))
      (λ away. ap (option_map (λ r. r.key)) (get_or-set_other slots i p (Some (with_totals old_row f s)) None away))
      (cases_eq p i)

  same_probes : (x : P) → probe_for order spread x slots' ≡ probe_for order spread x slots
  same_probes x = ap (λ m. probe_over order spread x (key_at slots') m) same_long ∙ probe_same (matches order x) (key_at slots) (key_at slots') (length slots) same_keys _ _

  settled_same : Settled order spread slots'
  settled_same p = ap (lands_at order spread slots' p) (same_keys p) ∙ by_key (key_at slots p) ∙ sound.settled p
    where
      by_key : (o : Option P) → lands_at order spread slots' p o ≡ lands_at order spread slots p o
      by_key None = refl
      by_key (Some x) = ap (found_at p) (same_probes x)

  pub table_written : table_ledger slots' n ≡ written_in (matches order k) f s (table_ledger slots n)
  table_written =
      let members = ap (ordered held n) rewritten ∙ found_changed held lawful n slots sound.each sound.alone k i None old_row old_inside old_held old_met (λ _. f) (λ _. s) (Some (with_totals old_row f s)) (with_totals old_row f s) refl refl refl refl refl in
      λ t. record { capacity = min (same_long t) most_members; members = members t }

  pub table_written_sound : TableSound order spread slots' n
  table_written_sound = record {
    within = omega (arith, sound.within, ap (λ m. min m most_members) same_long);
    each = subst (Once held n) (sym rewritten) (found_once held lawful n slots sound.each sound.alone k i None old_row old_inside old_held old_met (λ _. f) (λ _. s) (Some (with_totals old_row f s)) (with_totals old_row f s) refl refl refl refl refl);
    settled = settled_same;
    alone = ap (λ l. apart order (ordered held n l)) rewritten ∙ found_apart held lawful n slots sound.each sound.alone k i None old_row old_inside old_held old_met (λ _. f) (λ _. s) (Some (with_totals old_row f s)) (with_totals old_row f s) refl refl refl refl refl;
  }

-- a table of free slots
module _ {P : Type 0} (order : P → P → Ordering) (spread : P → ℕ) (slots : List (Option (Row P))) (n : ℕ) (none : n ≡ 0) (free : (p : ℕ) → get_or slots p None ≡ None) where
  once_none : (j : ℕ) → 0 ≡ once 0 j
  once_none j = grind (arith, nat_tests)

  pub fresh_table : TableSound order spread slots n
  fresh_table = record {
    within = omega arith;
    each = λ j. ap length (sieve_vacant held j slots (λ i d l. get_or_default slots i d None l ∙ free i)) ∙ once_none j ∙ ap (λ m. once m j) (sym none);
    settled = λ p. ap (λ s. lands_at order spread slots p (option_map (λ r. r.key) s)) (free p);
    alone = ap (λ m. apart order (ordered held m slots)) none;
  }
