-- The same questions and calls as the code answers them: by the index where the halving stops, on any list of entries.
-- At a rising map each of these is the definition by recursion.
use Rattle.std.specs.Prelude.{ℕ, ◌+◌, cond, List, [], ◌∷◌, ◌++◌, take, drop, None, Option, nat_le, nat_lt}
use Rattle.std.specs.Option.{option_map}
use Rattle.range_map.specs.declared.entry.Entry.{Entry}
use Rattle.range_map.specs.Halving.{place}
use Rattle.range_map.specs.Plain.{holding, meeting, gap, split}

-- the entries from where the halving for n stops
abbrev pub rest : {P : Type 0} → ℕ → List (Entry P) → List (Entry P)
rest n m = drop (place n m) m

abbrev pub head_at : {P : Type 0} → ℕ → List (Entry P) → Option (Entry P)
head_at n [] = None
head_at n (e ∷ m) = holding n e

unfoldable pub found : {P : Type 0} → ℕ → List (Entry P) → Option (Entry P)
found n m = head_at n (rest n m)

abbrev pub payload_found : {P : Type 0} → ℕ → List (Entry P) → Option P
payload_found n m = option_map (λ e. e.payload) (found n m)

abbrev pub head_hit : {P : Type 0} → ℕ → ℕ → List (Entry P) → Option ℕ
head_hit f l [] = None
head_hit f l (e ∷ m) = meeting f l e

unfoldable pub taken : {P : Type 0} → ℕ → ℕ → List (Entry P) → Option ℕ
taken f l m = head_hit f l (rest f m)

unfoldable pub uncovered : {P : Type 0} → ℕ → ℕ → List (Entry P) → Option ℕ
uncovered f l m = gap f l (rest f m)

abbrev pub head_cuts : {P : Type 0} → ℕ → List (Entry P) → ℕ
head_cuts n [] = 0
head_cuts n (e ∷ m) = cond (nat_lt e.first n) 1 0

abbrev pub head_cut : {P : Type 0} → ℕ → List (Entry P) → List (Entry P)
head_cut n [] = []
head_cut n (e ∷ m) = split n e m

-- where the halving for l + 1 stops, among the entries from where the one for f stops
unfoldable pub ending : {P : Type 0} → ℕ → ℕ → List (Entry P) → ℕ
ending f l m = place f m + place (l + 1) (rest f m)

unfoldable pub cuts_in : {P : Type 0} → ℕ → ℕ → List (Entry P) → ℕ
cuts_in f l m = head_cuts f (rest f m) + head_cuts (l + 1) (drop (ending f l m) m)

-- the entry at index i cut before n
unfoldable pub cut_at : {P : Type 0} → ℕ → ℕ → List (Entry P) → List (Entry P)
cut_at i n m = take i m ++ head_cut n (drop i m)

-- p for the entries in front that begin at l or below
unfoldable pub paid : {P : Type 0} → ℕ → P → List (Entry P) → List (Entry P)
paid l p [] = []
paid l p (e ∷ m) = cond (nat_le e.first l) (record { first = e.first; last = e.last; payload = p } ∷ paid l p m) (e ∷ m)

-- the same, past a first entry that begins before f
abbrev pub head_paid : {P : Type 0} → ℕ → ℕ → P → List (Entry P) → List (Entry P)
head_paid f l p [] = []
head_paid f l p (e ∷ m) = cond (nat_lt e.first f) (e ∷ paid l p m) (paid l p (e ∷ m))

unfoldable pub paid_at : {P : Type 0} → ℕ → ℕ → ℕ → P → List (Entry P) → List (Entry P)
paid_at i f l p m = take i m ++ head_paid f l p (drop i m)

-- the cut at the range's end is made first, so that neither cut depends on the other
unfoldable pub changed : {P : Type 0} → ℕ → ℕ → P → List (Entry P) → List (Entry P)
changed f l p m = paid_at (place f m) f l p (cut_at (place f m) f (cut_at (ending f l m) (l + 1) m))

unfoldable pub laid : {P : Type 0} → Entry P → List (Entry P) → List (Entry P)
laid x m = take (place x.first m) m ++ x ∷ rest x.first m
