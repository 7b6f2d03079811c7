-- What lay and change answer by the halving is what they answer in plain words; what one that is not refused may count on, and leaves. Assumes nothing.
use Rattle.std.proofs.Common.{◌≡◌, ℕ, ◌+◌, ◌-◌, ◌^◌, ◌<◌, ◌≤◌, Bool, true, false, cond, ◌&&◌, ltb, leb, List, length, is_some, is_ok, Some, None, Ok, Option, sym, refl, ap, ◌∙◌, subst, ⊎_elim, arith}
use Rattle.std.proofs.lemmas.Bool.{cases_Bool, ltb-false, leb-true, leb-false, and_parts, or_parts, cond-true, cond-false, false≢true}
use Rattle.std.specs.Option.{option_map}
use Rattle.figures.specs.declared.names.Table.{Table}
use Rattle.range_map.specs.declared.entry.Entry.{Entry}
use Rattle.range_map.specs.Counts.{bit, how_many, total, passes, tally}
use Rattle.range_map.specs.Plain.{bad, within, Between, Rising, at, payload_at, hit, gap, lay, change, cuts_of}
use Rattle.range_map.specs.Replies.{lay_reply, change_reply, plain_lay, plain_change}
use Rattle.range_map.specs.Map.{entry_of, lay_answer, change_answer}
use Rattle.range_map.specs.Laws.{FirstOpen, PlainLay, PlainChange}
use Rattle.range_map.proofs.Cutting.{at_change, at_lay, between_lay, between_change, length_lay, length_change}
use Rattle.range_map.proofs.Joining.{taken_is, uncovered_is_gap, cuts_in_are}
use Rattle.range_map.proofs.Firsts.{gap_first}
use Rattle.range_map.proofs.Sums.{sum_same, sum_add}
use Rattle.range_map.proofs.Counting.{alone, total_tally}

-- a call that is not refused passed each of its tests
pub lay_ok : (t : Table) (b : Bool) (o : Option ℕ) (q : Bool) → is_ok (lay_reply t b o q) ≡ true → (b ≡ false) × (o ≡ None) × (q ≡ false)
lay_ok t true o q ok = absurd (false≢true ok)
lay_ok t false (Some n) q ok = absurd (false≢true ok)
lay_ok t false None true ok = absurd (false≢true ok)
lay_ok t false None false ok = (refl, refl, refl)

pub change_ok : (t : Table) (b : Bool) (o : Option ℕ) (q : Bool) → is_ok (change_reply t b o q) ≡ true → (b ≡ false) × (o ≡ None) × (q ≡ false)
change_ok t true o q ok = absurd (false≢true ok)
change_ok t false (Some n) q ok = absurd (false≢true ok)
change_ok t false None true ok = absurd (false≢true ok)
change_ok t false None false ok = (refl, refl, refl)

pub good_range : (f l : ℕ) → bad f l ≡ false → (f ≤ l) × (l < 2 ^ 62)
good_range f l good = let p = or_parts _ _ good in (ltb-false l f p.0, leb-false (2 ^ 62) l p.1)

-- the payload of a position that has one
some_of : {P : Type 0} (p : P) (o : Option (Entry P)) → is_some o ≡ true → option_map (λ _. p) (option_map (λ e. e.payload) o) ≡ Some p
some_of p None some = absurd (false≢true some)
some_of p (Some e) some = refl

all_open : {P : Type 0} (f l : ℕ) (m : List (Entry P)) → f ≤ l → gap f l m ≡ None → (n : ℕ) → f ≤ n → n ≤ l → is_some (at n m) ≡ true
all_open f l m le none = subst (FirstOpen f l m) none (gap_first f l m le)

covered_change : {P : Type 0} (f l : ℕ) (p : P) (m : List (Entry P)) → f ≤ l → gap f l m ≡ None → (n : ℕ) → cond (within f l n) (option_map (λ _. p) (payload_at n m)) (payload_at n m) ≡ cond (within f l n) (Some p) (payload_at n m)
covered_change f l p m le none n =
    ⊎_elim
    (λ t. cond-true _ _ _ t ∙ some_of p (at n m) (all_open f l m le none n (leb-true f n (and_parts _ _ t).0) (leb-true n l (and_parts _ _ t).1)) ∙ sym (cond-true _ _ _ t))
    (λ t. cond-false _ _ _ t ∙ sym (cond-false _ _ _ t))
    (cases_Bool (within f l n))

-- the answers themselves
module _ {P : Type 0} (t : Table) (slots f l : ℕ) (m : List (Entry P)) (w : Rising m) where
  pub lay_answer_lem : lay_answer t slots f l m ≡ plain_lay t slots f l m
  lay_answer_lem = ap (λ o. lay_reply t (bad f l) o (leb slots (length m))) (taken_is 0 (2 ^ 62) m w f l)

  pub change_answer_lem : change_answer t slots f l m ≡ plain_change t slots f l m
  change_answer_lem =
      let covered = uncovered_is_gap 0 (2 ^ 62) m w f l in
      ⊎_elim
      (λ no. cond-true _ _ _ no ∙ sym (cond-true _ _ _ no))
      (λ good.
      let cuts = cuts_in_are f l 0 (2 ^ 62) m w (good_range f l good).0 in
      λ j. change_reply t (bad f l) (covered j) (ltb slots (length m + cuts j)))
      (cases_Bool (bad f l))

-- what a call that is not refused may count on
module _ {P : Type 0} (t : Table) (slots f l : ℕ) (m : List (Entry P)) (v : Unit {0}) where
  pub lay_lets : Ok v ≡ plain_lay t slots f l m → (f ≤ l) × (l < 2 ^ 62) × (hit f l m ≡ None) × (length m < slots)
  lay_lets reply =
      let a = lay_ok t (bad f l) (hit f l m) (leb slots (length m)) (sym (ap is_ok reply)) in
      let g = good_range f l a.0 in
      (g.0, g.1, a.1, leb-false slots (length m) a.2)

  pub change_lets : Ok v ≡ plain_change t slots f l m → (f ≤ l) × (l < 2 ^ 62) × (gap f l m ≡ None) × (length m + cuts_of f l m ≤ slots)
  change_lets reply =
      let a = change_ok t (bad f l) (gap f l m) (ltb slots (length m + cuts_of f l m)) (sym (ap is_ok reply)) in
      let g = good_range f l a.0 in
      (g.0, g.1, a.1, ltb-false slots (length m + cuts_of f l m) a.2)

-- and what it leaves
module _ {P : Type 0} (t : Table) (slots f l : ℕ) (p : P) (m m' : List (Entry P)) where
  module _ (w : Rising m) (reply : Ok tt ≡ plain_lay t slots f l m) (after : m' ≡ lay (entry_of f l p) m) where
    pub lay_rising : Rising m'
    lay_rising = let a = lay_lets t slots f l m tt reply in subst Rising (sym after) (between_lay (entry_of f l p) 0 (2 ^ 62) m (omega arith) a.0 a.1 a.2 w)

    pub lay_plain : PlainLay t slots f l p m (Ok tt) m'
    lay_plain =
        let a = lay_lets t slots f l m tt reply in
        record {
          reply = reply;
          entries = after;
          positions = λ ok n. ap (payload_at n) after ∙ at_lay f l p n m a.0 a.2;
          grows = λ ok. ap length after ∙ length_lay (entry_of f l p) m;
        }

  module _ (w : Rising m) (reply : Ok tt ≡ plain_change t slots f l m) (after : m' ≡ change f l p m) where
    pub change_rising : Rising m'
    change_rising = subst Rising (sym after) (between_change f l p 0 (2 ^ 62) m w)

    pub change_plain : PlainChange t slots f l p m (Ok tt) m'
    change_plain =
        let a = change_lets t slots f l m tt reply in
        record {
          reply = reply;
          entries = after;
          positions = λ ok n. ap (payload_at n) after ∙ at_change f l p n 0 (2 ^ 62) m w a.0 ∙ covered_change f l p m a.0 a.2 n;
          grows = λ ok. ap length after ∙ length_change f l p m a.0;
        }

-- what a change moves between totals: out goes what passed within the range, in comes its size, if the new payload passes
module _ {P : Type 0} (t : P → Bool) (p : P) where
  moved : (w : Bool) (o : Option P) → bit (passes t (cond w (Some p) o)) + bit (w && passes t o) ≡ bit (passes t o) + bit (t p && w)
  moved true o = both (t p) (passes t o)
    where
      both : (x y : Bool) → bit x + bit y ≡ bit y + bit (x && true)
      both true true = refl
      both true false = refl
      both false true = refl
      both false false = refl
  moved false o = still (t p) (passes t o)
    where
      still : (x y : Bool) → bit y + 0 ≡ bit y + bit (x && false)
      still true y = refl
      still false y = refl

  pub total_change : (f l b h : ℕ) (m : List (Entry P)) → Between b h m → f ≤ l → l < h → gap f l m ≡ None → total t (change f l p m) + how_many (λ n. within f l n && passes t (payload_at n m)) h ≡ total t m + cond (t p) (l - f + 1) 0
  unfolding tally
  total_change f l b h m w le lt covered =
      let after = total_tally t b h (change f l p m) (between_change f l p b h m w) in
      let before = total_tally t b h m w in
      let size = alone (t p) f l h le lt in
      let out = sum_add (λ n. bit (passes t (payload_at n (change f l p m)))) (λ n. bit (within f l n && passes t (payload_at n m))) h in
      let into = sum_add (λ n. bit (passes t (payload_at n m))) (λ n. bit (t p && within f l n)) h in
      let each = sum_same (λ n. bit (passes t (payload_at n (change f l p m))) + bit (within f l n && passes t (payload_at n m))) (λ n. bit (passes t (payload_at n m)) + bit (t p && within f l n)) h
      (λ n _. ap (λ o. bit (passes t o) + bit (within f l n && passes t (payload_at n m))) (at_change f l p n b h m w le ∙ covered_change f l p m le covered n) ∙ moved (within f l n) (payload_at n m)) in
      omega (arith, after, before, size, out, into, each)
