-- The laws of ledgers as callers of a book use them: what a call leaves of the members, their totals and
-- their keys. Assumes nothing.
use Rattle.std.proofs.Common.{◌≡◌, ℕ, ◌+◌, ◌-◌, ◌≤◌, Bool, true, false, cond, List, [], ◌∷◌, ◌++◌, map, length, Some, None, Option, Ordering, refl, ap, ◌∙◌, arith}
use Rattle.std.specs.Option.{option_map}
use Rattle.std.proofs.lemmas.List.{map_push, length_push}
use Rattle.std.proofs.lemmas.Bool.{cond_both, cond-true, cond-false, ltb-true}
use Rattle.std.proofs.lemmas.Bool.Decides.{nat_tests}
use Rattle.figures.specs.Accounts.{TotalOrder}
use Rattle.figures.specs.Limits.{most_total}
use Rattle.books.specs.Changes.{moved, moved_both, posted}
use Rattle.books.specs.Faults.{add_after, write_after}
use Rattle.books.specs.Ledger.{Member, Ledger, matches, present, number_from, running_number, totals, apart, roomy, total, newcomer, enrolled, written_in}
use Rattle.books.specs.declared.changes.Change.{Change}
use Rattle.books.specs.declared.changes.Change.TheVariants.{Up, Down}
use Rattle.books.proofs.Ledgers.{length_changed, keys_changed, present_changed, number_changed, totals_changed, totals_changed_other, apart_changed, apart_push, matches_self, present_push, totals_push, number_push}

-- Within the limits a total moves by the whole count.
pub moved_up : (n t : ℕ) → t + n ≤ most_total → moved (Up n) t ≡ t + n
moved_up n t h = omega arith

pub moved_down : (n t : ℕ) → t ≤ most_total → moved (Down n) t ≡ t - n
moved_down n t h = omega arith

pub moved_limited : (c : Change) (t : ℕ) → moved c t ≤ most_total
moved_limited (Up n) t = omega arith
moved_limited (Down n) t = omega arith

total_moved : (c : Change) (t : ℕ) → total (moved c t) ≡ moved c t
total_moved c t = omega (arith, moved_limited c t)

-- A posting: the party's totals move, nobody else's do, and nothing else changes.
module _ {P : Type 0} (is : P → Bool) (f s : Change) (l : Ledger P) where
  pub totals_posted : totals is (posted is f s l).members ≡ option_map (moved_both f s) (totals is l.members)
  totals_posted = totals_changed is (moved f) (moved s) l.members ∙ stops (totals is l.members)
    where
      stops : (o : Option (ℕ × ℕ)) → option_map {U = ℕ × ℕ} (λ t. (total (moved f t.0), total (moved s t.1))) o ≡ option_map (moved_both f s) o
      stops None = refl
      stops (Some t) = λ i. Some (total_moved f t.0 i, total_moved s t.1 i)

  pub totals_posted_other : (other : P → Bool) → ((k : P) → is k ≡ true → other k ≡ false) → totals other (posted is f s l).members ≡ totals other l.members
  totals_posted_other other differ = totals_changed_other is (moved f) (moved s) other differ l.members

  pub keys_posted : map (λ m. m.key) (posted is f s l).members ≡ map (λ m. m.key) l.members
  keys_posted = keys_changed is (moved f) (moved s) l.members

  pub length_posted : length (posted is f s l).members ≡ length l.members
  length_posted = length_changed is (moved f) (moved s) l.members

  pub present_posted : (other : P → Bool) → present other (posted is f s l).members ≡ present other l.members
  present_posted other = present_changed is (moved f) (moved s) other l.members

  pub number_posted : (other : P → Bool) → running_number other (posted is f s l).members ≡ running_number other l.members
  number_posted other = number_changed is (moved f) (moved s) other 1 l.members

-- Totals written: those of the member are the given ones, at most the limit; all else stays.
module _ {P : Type 0} (is : P → Bool) (f s : ℕ) (l : Ledger P) where
  written_is : (G : Ledger P → Type 0) → (present is l.members ≡ true → G (written_in is f s l)) → (present is l.members ≡ false → G l) → G (write_after is f s l)
  written_is G yes' no' = cond_both (present is l.members) (written_in is f s l) l G yes' no'

  pub totals_written : totals is (write_after is f s l).members ≡ option_map (λ _. (total f, total s)) (totals is l.members)
  totals_written = written_is (λ m. totals is m.members ≡ option_map (λ _. (total f, total s)) (totals is l.members)) (λ _. totals_changed is (λ _. f) (λ _. s) l.members) (λ h. none l.members h)
    where
      none : (ms : List (Member P)) → present is ms ≡ false → totals is ms ≡ option_map (λ _. (total f, total s)) (totals is ms)
      none [] h = refl
      none (m ∷ ms) h = let ih = none ms in grind (arith, nat_tests)

  pub totals_written_other : (other : P → Bool) → ((k : P) → is k ≡ true → other k ≡ false) → totals other (write_after is f s l).members ≡ totals other l.members
  totals_written_other other differ = written_is (λ m. totals other m.members ≡ totals other l.members) (λ _. totals_changed_other is (λ _. f) (λ _. s) other differ l.members) (λ _. refl)

  pub keys_written : map (λ m. m.key) (write_after is f s l).members ≡ map (λ m. m.key) l.members
  keys_written = written_is (λ m. map (λ x. x.key) m.members ≡ map (λ x. x.key) l.members) (λ _. keys_changed is (λ _. f) (λ _. s) l.members) (λ _. refl)

  pub present_written : (other : P → Bool) → present other (write_after is f s l).members ≡ present other l.members
  present_written other = written_is (λ m. present other m.members ≡ present other l.members) (λ _. present_changed is (λ _. f) (λ _. s) other l.members) (λ _. refl)

  pub number_written : (other : P → Bool) → running_number other (write_after is f s l).members ≡ running_number other l.members
  number_written other = written_is (λ m. running_number other m.members ≡ running_number other l.members) (λ _. number_changed is (λ _. f) (λ _. s) other 1 l.members) (λ _. refl)

-- A key joins: it is last, with totals 0, and every other key is as it was.
module _ {P : Type 0} {order : P → P → Ordering} (lawful : TotalOrder order) (k : P) (l : Ledger P) (absent : present (matches order k) l.members ≡ false) where
  pub keys_enrolled : map (λ m. m.key) (enrolled k l).members ≡ map (λ m. m.key) l.members ++ k ∷ []
  keys_enrolled = map_push (λ m. m.key) l.members (newcomer k)

  pub length_enrolled : length (enrolled k l).members ≡ length l.members + 1
  length_enrolled = length_push l.members (newcomer k)

  pub totals_enrolled : totals (matches order k) (enrolled k l).members ≡ Some (0, 0)
  totals_enrolled = totals_push (matches order k) l.members (newcomer k) ∙ cond-false _ _ _ absent ∙ cond-true _ _ _ (matches_self lawful k)

  pub number_enrolled : running_number (matches order k) (enrolled k l).members ≡ Some (1 + length l.members)
  number_enrolled = number_push (matches order k) 1 l.members (newcomer k) ∙ cond-false _ _ _ absent ∙ cond-true _ _ _ (matches_self lawful k)

  pub present_enrolled : (is : P → Bool) → present is (enrolled k l).members ≡ cond (present is l.members) true (is k)
  present_enrolled is = present_push is l.members (newcomer k)

  pub totals_enrolled_other : (is : P → Bool) → is k ≡ false → totals is (enrolled k l).members ≡ totals is l.members
  totals_enrolled_other is other = totals_push is l.members (newcomer k) ∙ ap (λ o. cond (present is l.members) (totals is l.members) o) (cond-false _ _ _ other) ∙ absent_none l.members
    where
      absent_none : (ms : List (Member P)) → cond (present is ms) (totals is ms) None ≡ totals is ms
      absent_none [] = refl
      absent_none (m ∷ ms) = let ih = absent_none ms in grind (arith, nat_tests)

  pub number_enrolled_other : (is : P → Bool) → is k ≡ false → running_number is (enrolled k l).members ≡ running_number is l.members
  number_enrolled_other is other = number_push is 1 l.members (newcomer k) ∙ ap (λ o. cond (present is l.members) (running_number is l.members) o) (cond-false _ _ _ other) ∙ absent_none 1 l.members
    where
      absent_none : (n : ℕ) (ms : List (Member P)) → cond (present is ms) (number_from n is ms) None ≡ number_from n is ms
      absent_none n [] = refl
      absent_none n (m ∷ ms) = let ih = absent_none (n + 1) ms in grind (arith, nat_tests)

-- No key occurs twice after any call, if none did before.
module _ {P : Type 0} {order : P → P → Ordering} (lawful : TotalOrder order) (l : Ledger P) (alone : apart order l.members ≡ true) where
  pub apart_added : (k : P) → apart order (add_after (matches order k) k l).members ≡ true
  apart_added k =
      cond_both (present (matches order k) l.members) l (cond (roomy l) (enrolled k l) l) (λ m. apart order m.members ≡ true) (λ _. alone)
      (λ absent. cond_both (roomy l) (enrolled k l) l (λ m. apart order m.members ≡ true) (λ _. apart_push lawful k l.members alone absent) (λ _. alone))

  pub apart_written : (is : P → Bool) (f s : ℕ) → apart order (write_after is f s l).members ≡ true
  apart_written is f s = written_is is f s l (λ m. apart order m.members ≡ true) (λ _. apart_changed lawful is (λ _. f) (λ _. s) l.members ∙ alone) (λ _. alone)

  pub apart_posted : (is : P → Bool) (f s : Change) → apart order (posted is f s l).members ≡ true
  apart_posted is f s = apart_changed lawful is (moved f) (moved s) l.members ∙ alone

-- Members stay within the capacity.
pub added_within : {P : Type 0} (is : P → Bool) (k : P) (l : Ledger P) → length l.members ≤ l.capacity → length (add_after is k l).members ≤ (add_after is k l).capacity
added_within is k l h =
    cond_both (present is l.members) l (cond (roomy l) (enrolled k l) l) (λ m. length m.members ≤ m.capacity) (λ _. h)
    (λ _. cond_both (roomy l) (enrolled k l) l (λ m. length m.members ≤ m.capacity) (λ room. omega (arith, ltb-true _ _ room, length_push l.members (newcomer k))) (λ _. h))
