-- What is read where the halving stops, and the walk from there on. Assumes nothing.
use Rattle.std.proofs.Common.{◌≡◌, ℕ, suc, ◌+◌, ◌^◌, ◌<◌, ◌≤◌, Bool, true, false, cond, not, leb, ltb, max, List, [], ◌∷◌, length, get_or, drop, Bor, MatchOption, Some, None, Option, sym, refl, ap, ◌∙◌, subst, arith}
use Rattle.std.proofs.lemmas.List.{drop_all, drop_more}
use Rattle.std.proofs.lemmas.Bool.{lt-ltb, le-ltb, ltb-false, or_left, or_right, or_from, cond-true, cond-false, cond_both}
use Rattle.std.proofs.lemmas.Option.{slice_get_past, slice_get_read}
use Rattle.std.specs.Bool.{then_some}
use Rattle.std.specs.Int.{from_bool}
use Rattle.std.specs.List.{slice_get}
use Rattle.std.specs.Option.{IsSomeAnd, option_and_then, option_copied, option_map, option_map_or}
use Rattle.std.specs.Slice.{IsItemAt}
use Rattle.range_map.specs.declared.entry.Entry.{Entry}
use Rattle.range_map.specs.Plain.{Between, gap_by, meeting}
use Rattle.range_map.proofs.Joining.{skipped}

module _ {X : Type 0} where
  pub got : (xs : List X) (i : ℕ) (r : Option (Bor X)) → IsItemAt xs i r → option_copied r ≡ slice_get xs i
  got xs i None h = sym (slice_get_past xs i h.3)
  got xs i (Some x) h = sym (slice_get_read xs (length xs) i x.now refl h.3.0 h.1)

  then_some_is : (b : Bool) (x : X) → then_some b x ≡ cond b (Some x) None
  then_some_is true x = refl
  then_some_is false x = refl

  -- what `filter` leaves of a value that is tested by t
  pub filtered : (t : X → Bool) (R : X → Bool → Type 0) (o r : Option X) → ((x : X) (b : Bool) → R x b → b ≡ t x) → MatchOption o (r ≡ None) (λ x. (b : Bool) × R x b × (r ≡ then_some b x)) → r ≡ option_and_then (λ x. cond (t x) (Some x) None) o
  filtered t R None r told h = h
  filtered t R (Some x) r told h = h.2 ∙ ap (λ b. then_some b x) (told x h.0 h.1) ∙ then_some_is (t x) x

  -- what `map` and `is_some_and` make of a value behind a reference
  pub mapped : {Y : Type 0} (v : X → Y) (Q : Bor X → Y → Type 0) (o : Option (Bor X)) (r : Option Y) → ((x : Bor X) (y : Y) → Q x y → y ≡ v x.now) → MatchOption o (r ≡ None) (λ x. IsSomeAnd r (Q x)) → r ≡ option_map v (option_copied o)
  mapped v Q None r told h = h
  mapped v Q (Some x) None told h = absurd h
  mapped v Q (Some x) (Some y) told h = ap Some (told x y h)

  pub asked : (t : X → Bool) (Q : Bor X → Type 0) (o : Option (Bor X)) (r : Bool) → ((x : Bor X) → Q x → r ≡ t x.now) → MatchOption o (r ≡ false) Q → r ≡ option_map_or t (option_copied o) false
  asked t Q None r told h = h
  asked t Q (Some x) r told h = told x h

  -- the element that was read at i stands in front of what follows it
  pub drop_read : (m : List X) (i : ℕ) (e : X) → i < length m → e ≡ get_or m i e → drop i m ≡ e ∷ drop (i + 1) m
  drop_read m i e lt read = drop_more m i e lt ∙ ap (λ x. x ∷ drop (i + 1) m) (sym read)

module _ {P : Type 0} where
  pub met : (f l : ℕ) (o : Option (Entry P)) → option_and_then (λ k. cond (leb k l) (Some k) None) (option_map (λ e. max f e.first) o) ≡ option_and_then (meeting f l) o
  met f l None = refl
  met f l (Some e) = refl

  pub counted : (n : ℕ) (o o' : Option (Entry P)) → o ≡ o' → from_bool (option_map_or (λ e. ltb e.first n) o false) ≡ option_map_or (λ e. cond (ltb e.first n) 1 0) o' 0
  counted n o o' is = each o ∙ ap (λ x. option_map_or (λ e. cond (ltb e.first n) 1 0) x 0) is
    where
      one : (b : Bool) → from_bool b ≡ cond b 1 0
      one true = refl
      one false = refl

      each : (x : Option (Entry P)) → from_bool (option_map_or (λ e. ltb e.first n) x false) ≡ option_map_or (λ e. cond (ltb e.first n) 1 0) x 0
      each None = refl
      each (Some e) = one (ltb e.first n)

  -- the entries that a walk for n has ahead of it: none of them ends before n
  abbrev pub Ahead : ℕ → List (Entry P) → Type 0
  Ahead n [] = Unit {0}
  Ahead n (e ∷ m) = (n ≤ e.last) × Between (e.last + 1) (2 ^ 62) m

  ahead_of : (b : ℕ) (m : List (Entry P)) → Between b (2 ^ 62) m → Ahead b m
  ahead_of b [] w = tt
  ahead_of b (e ∷ m) w = (omega arith, w.3)

  ahead_split : (n s : ℕ) (b : Bool) (e : Entry P) (m : List (Entry P)) → Ahead n (cond b (drop s m) (e ∷ m)) → Ahead n (drop (cond b (suc s) 0) (e ∷ m))
  ahead_split n s true e m a = a
  ahead_split n s false e m a = a

  pub ahead_start : (n b : ℕ) (m : List (Entry P)) → Between b (2 ^ 62) m → Ahead n (drop (skipped n m) m)
  ahead_start n b [] w = tt
  ahead_start n b (e ∷ m) w =
      ahead_split n (skipped n m) (ltb e.last n) e m
      (cond_both {A = List (Entry P)} (ltb e.last n) _ _ (Ahead n) (λ _. ahead_start n (e.last + 1) m w.3) (λ t. let reach = ltb-false e.last n t in (reach, w.3)))

  module _ (n : ℕ) (m : List (Entry P)) (i : ℕ) (e : Entry P) (lt : i < length m) (read : e ≡ get_or m i e) (a : Ahead n (drop i m)) where
    pub reached : n ≤ e.last
    reached = (subst (Ahead n) (drop_read m i e lt read) a).0

    pub ahead_next : Ahead (e.last + 1) (drop (i + 1) m)
    ahead_next = ahead_of (e.last + 1) (drop (i + 1) m) (subst (Ahead n) (drop_read m i e lt read) a).1

  -- the ways in which the walk stops, one entry passed, the end
  module _ (t : P → Bool) (g l : ℕ) (m : List (Entry P)) (i : ℕ) where
    pub walk_end : length m ≤ i → gap_by t g l (drop i m) ≡ Some g
    unfolding gap_by
    walk_end past = ap (gap_by t g l) (drop_all i m past)

    module _ (e : Entry P) (lt : i < length m) (read : e ≡ get_or m i e) (reach : g ≤ e.last) where
      pub walk_open : g < e.first → gap_by t g l (drop i m) ≡ Some g
      unfolding gap_by
      walk_open later = ap (gap_by t g l) (drop_read m i e lt read) ∙ cond-false _ _ _ (le-ltb _ g reach) ∙ cond-true _ _ _ (or_left _ _ (lt-ltb g _ later))

      pub walk_fails : t e.payload ≡ false → gap_by t g l (drop i m) ≡ Some g
      unfolding gap_by
      walk_fails fails = ap (gap_by t g l) (drop_read m i e lt read) ∙ cond-false _ _ _ (le-ltb _ g reach) ∙ cond-true _ _ _ (or_right _ _ (ap not fails))

      module _ (begun : e.first ≤ g) (passes : t e.payload ≡ true) where
        passed : gap_by t g l (drop i m) ≡ cond (ltb e.last l) (gap_by t (e.last + 1) l (drop (i + 1) m)) None
        unfolding gap_by
        passed =
            ap (gap_by t g l) (drop_read m i e lt read) ∙ cond-false _ _ _ (le-ltb _ g reach) ∙ cond-false _ _ _ (or_from _ _ (le-ltb g _ begun) (ap not passes))

        pub walk_done : l ≤ e.last → gap_by t g l (drop i m) ≡ None
        walk_done far = passed ∙ cond-false _ _ _ (le-ltb _ l far)

        pub walk_on : e.last < l → gap_by t g l (drop i m) ≡ gap_by t (e.last + 1) l (drop (i + 1) m)
        walk_on less = passed ∙ cond-true _ _ _ (lt-ltb _ l less)
