-- A map is a list of entries. What each question and each call means, by recursion over the list.
-- Every definition passes over the entries that end before the position asked for: at a rising map these are the ones below it.
use Rattle.std.specs.Prelude.{ℕ, ◌+◌, ◌-◌, ◌^◌, ◌<◌, ◌≤◌, max, Bool, cond, not, ◌&&◌, ◌||◌, List, [], ◌∷◌, map, Some, None, Option, nat_le, nat_lt}
use mathlib.Core.HLevel.{Unit-prop}
use native.Mathlib.Bridge.{le_prop}
use Rattle.std.specs.Option.{option_map}
use Rattle.range_map.specs.declared.entry.Entry.{Entry}

-- positions run from 0 to 2 ^ 62 - 1
abbrev pub bad : ℕ → ℕ → Bool
bad f l = nat_lt l f || nat_le (2 ^ 62) l

-- n lies in the range f to l
abbrev pub within : ℕ → ℕ → ℕ → Bool
within f l n = nat_le f n && nat_le n l

-- entries from b on and below h, each with at least one position, each after the one before
abbrev pub Between : {P : Type 0} → ℕ → ℕ → List (Entry P) → Type 0
Between b h [] = Unit {0}
Between b h (e ∷ m) = (b ≤ e.first) × (e.first ≤ e.last) × (e.last < h) × Between (e.last + 1) h m

-- no two entries share a position, and they lie in rising order
abbrev pub Rising : {P : Type 0} → List (Entry P) → Type 0
Rising m = Between 0 (2 ^ 62) m

-- which has one proof at most
pub Between_prop : {P : Type 0} (b h : ℕ) (m : List (Entry P)) → IsProp (Between b h m)
Between_prop b h [] = Unit-prop
Between_prop b h (e ∷ m) = λ x y i. (le_prop x.0 y.0 i, le_prop x.1 y.1 i, le_prop x.2 y.2 i, Between_prop (e.last + 1) h m x.3 y.3 i)

-- e, where its positions have begun by n
abbrev pub holding : {P : Type 0} → ℕ → Entry P → Option (Entry P)
holding n e = cond (nat_le e.first n) (Some e) None

-- the entry that covers n
unfoldable pub at : {P : Type 0} → ℕ → List (Entry P) → Option (Entry P)
at n [] = None
at n (e ∷ m) = cond (nat_lt e.last n) (at n m) (holding n e)

-- the payload that n has
abbrev pub payload_at : {P : Type 0} → ℕ → List (Entry P) → Option P
payload_at n m = option_map (λ e. e.payload) (at n m)

-- the first position of e from f on, where it is at most l
abbrev pub meeting : {P : Type 0} → ℕ → ℕ → Entry P → Option ℕ
meeting f l e = cond (nat_le (max f e.first) l) (Some (max f e.first)) None

-- the first of the positions f to l that an entry covers
unfoldable pub hit : {P : Type 0} → ℕ → ℕ → List (Entry P) → Option ℕ
hit f l [] = None
hit f l (e ∷ m) = cond (nat_lt e.last f) (hit f l m) (meeting f l e)

-- the first of the positions f to l that no entry covers
unfoldable pub gap : {P : Type 0} → ℕ → ℕ → List (Entry P) → Option ℕ
gap f l [] = Some f
gap f l (e ∷ m) =
    cond (nat_lt e.last f) (gap f l m) (cond (nat_lt f e.first) (Some f) (cond (nat_lt e.last l) (gap (e.last + 1) l m) None))

-- the first of the positions f to l that no entry covers or whose payload fails the test
unfoldable pub gap_by : {P : Type 0} → (P → Bool) → ℕ → ℕ → List (Entry P) → Option ℕ
gap_by t f l [] = Some f
gap_by t f l (e ∷ m) =
    cond (nat_lt e.last f) (gap_by t f l m)
    (cond (nat_lt f e.first || not (t e.payload)) (Some f) (cond (nat_lt e.last l) (gap_by t (e.last + 1) l m) None))

-- the two parts of e when it is cut before n: both keep the payload
abbrev pub below : {P : Type 0} → ℕ → Entry P → Entry P
below n e = record { first = e.first; last = n - 1; payload = e.payload }

abbrev pub from : {P : Type 0} → ℕ → Entry P → Entry P
from n e = record { first = n; last = e.last; payload = e.payload }

-- e in front of m, cut before n where it began before n
abbrev pub split : {P : Type 0} → ℕ → Entry P → List (Entry P) → List (Entry P)
split n e m = cond (nat_lt e.first n) (below n e ∷ from n e ∷ m) (e ∷ m)

-- m with the entry cut in which n lies past the first position
unfoldable pub cut : {P : Type 0} → ℕ → List (Entry P) → List (Entry P)
cut n [] = []
cut n (e ∷ m) = cond (nat_lt e.last n) (e ∷ cut n m) (split n e m)

-- how many entries that cut adds: 1 or 0
unfoldable pub cuts : {P : Type 0} → ℕ → List (Entry P) → ℕ
cuts n [] = 0
cuts n (e ∷ m) = cond (nat_lt e.last n) (cuts n m) (cond (nat_lt e.first n) 1 0)

-- m with the entry x in its place
unfoldable pub lay : {P : Type 0} → Entry P → List (Entry P) → List (Entry P)
lay x [] = x ∷ []
lay x (e ∷ m) = cond (nat_lt e.last x.first) (e ∷ lay x m) (x ∷ e ∷ m)

-- e with another payload, which may depend on e
abbrev pub remade : {P : Type 0} → (Entry P → P) → Entry P → Entry P
remade g e = record { first = e.first; last = e.last; payload = g e }

-- the first and the last position
abbrev pub ends : {P : Type 0} → Entry P → ℕ × ℕ
ends e = (e.first, e.last)

-- an entry that begins within f to l gets p
abbrev pub repaid : {P : Type 0} → ℕ → ℕ → P → Entry P → Entry P
repaid f l p = remade (λ e. cond (within f l e.first) p e.payload)

-- a change of f to l: a cut at each end, then p for every entry within
unfoldable pub change : {P : Type 0} → ℕ → ℕ → P → List (Entry P) → List (Entry P)
change f l p m = map (repaid f l p) (cut f (cut (l + 1) m))

-- how many entries that change adds: 0, 1 or 2
unfoldable pub cuts_of : {P : Type 0} → ℕ → ℕ → List (Entry P) → ℕ
cuts_of f l m = cuts f m + cuts (l + 1) m
