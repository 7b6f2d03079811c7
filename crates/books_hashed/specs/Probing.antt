-- Linear probing: from the key's home slot on, round the table. Assumes nothing.
use Rattle.std.specs.Prelude.{◌≡◌, ℕ, zero, suc, ◌+◌, ◌%◌, Bool, true, false, cond, List, length, Some, None, Option, ◌==◌, nat_lt, slice_index_or}
use Rattle.std.specs.declared.cmp.Ordering.{Ordering}
use Rattle.std.specs.Option.{option_map}
use Rattle.books.specs.Ledger.{matches}
use Rattle.books_hashed.specs.declared.probing.Probe.{Probe}
use Rattle.books_hashed.specs.declared.probing.Probe.TheVariants.{Found, Free, Full}
use Rattle.books.specs.declared.rows.Row.{Row}

-- the key in a slot; past the end there is none
abbrev pub key_at : {P : Type 0} → List (Option (Row P)) → ℕ → Option P
key_at slots p = option_map (λ r. r.key) (slice_index_or slots p None)

-- the slot after p, of m
abbrev pub next_slot : ℕ → ℕ → ℕ
next_slot m p = cond (nat_lt (p + 1) m) (p + 1) 0

abbrev pub ends_or : Option Probe → Probe → Probe
ends_or None rest = rest
ends_or (Some end) rest = end

-- At a free slot the probe ends, and at the key; from any other key it goes on.
abbrev pub glanced : {P : Type 0} → (P → Bool) → Option P → ℕ → Option Probe
glanced is None p = Some (Free p)
glanced is (Some k) p = cond (is k) (Some (Found p)) None

abbrev pub landed : {P : Type 0} → (P → Bool) → Option P → ℕ → Probe → Probe
landed is k p rest = ends_or (glanced is k p) rest

-- from slot p on, at most n slots
abbrev pub probe_from : {P : Type 0} → (P → Bool) → (ℕ → Option P) → ℕ → ℕ → ℕ → Probe
probe_from is keys m p zero = Full
probe_from is keys m p (suc n) = landed is (keys p) p (probe_from is keys m (next_slot m p) n)

-- the whole probe for a key: it ends after at most all slots
abbrev pub probe_for : {P : Type 0} → (P → P → Ordering) → (P → ℕ) → P → List (Option (Row P)) → Probe
probe_for order spread k slots = probe_from (matches order k) (key_at slots) (length slots) (spread k % length slots) (length slots)

abbrev pub found_at : ℕ → Probe → Bool
found_at p (Found q) = q == p
found_at p (Free q) = false
found_at p Full = false

abbrev pub lands_at : {P : Type 0} → (P → P → Ordering) → (P → ℕ) → List (Option (Row P)) → ℕ → Option P → Bool
lands_at order spread slots p None = true
lands_at order spread slots p (Some k) = found_at p (probe_for order spread k slots)

-- the probe for every key in the table ends where that key is
abbrev pub Settled : {P : Type 0} → (P → P → Ordering) → (P → ℕ) → List (Option (Row P)) → Type 0
Settled order spread slots = (p : ℕ) → lands_at order spread slots p (key_at slots p) ≡ true
