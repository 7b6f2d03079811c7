-- Standings by range: who holds what, what becomes of an offer's numbers, and of held ones past their term.
-- Assumes nothing.
use Rattle.std.specs.Prelude.{ℕ, ◌+◌, min, Bool, true, false, cond, not, ◌&&◌, List, [], ◌∷◌, Some, None, Option, ◌==◌}
use Rattle.figures.specs.Limits.{most_total}
use Rattle.figures.specs.declared.accounts.Account.{Account}
use Rattle.books.specs.Changes.{posted}
use Rattle.books.specs.Ledger.{Ledger}
use Rattle.books.specs.declared.changes.Change.TheVariants.{Up, Down}
use Rattle.range_map.specs.Counts.{size}
use Rattle.range_map.specs.Placed.{rest, payload_found}
use Rattle.range_map.specs.Plain.{gap_by}
use Rattle.range_map.specs.declared.entry.Entry.{Entry}
use Rattle.register.specs.State.{is_account}
use Rattle.register.specs.Terms.{overdue, lapsed}
use Rattle.register.specs.declared.rows.Origin.{Origin}
use Rattle.register.specs.declared.rows.Standing.{Standing}
use Rattle.register.specs.declared.rows.Standing.TheVariants.{Held, Offered, Cancelled, Expired}

abbrev pub held_by : Account → Standing → Bool
held_by a (Held b) = is_account a b
held_by a (Offered k) = false
held_by a (Cancelled s) = false
held_by a Expired = false

abbrev pub is_held : Standing → Bool
is_held (Held b) = true
is_held (Offered k) = false
is_held (Cancelled s) = false
is_held Expired = false

abbrev pub offered_under : ℕ → Standing → Bool
offered_under k (Held b) = false
offered_under k (Offered j) = j == k
offered_under k (Cancelled s) = false
offered_under k Expired = false

-- the first of the numbers f to l that the account does not hold
unfoldable pub unheld : Account → ℕ → ℕ → List (Entry Standing) → Option ℕ
unheld a f l m = gap_by (held_by a) f l (rest f m)

-- the sizes of the entries that pass, added up; a sum past the limit of totals reads as that limit
unfoldable pub sizes_of : {P : Type 0} → (Entry P → Bool) → List (Entry P) → ℕ
sizes_of t [] = 0
sizes_of t (e ∷ m) = cond (t e) (size e) 0 + sizes_of t m

abbrev pub counted : {P : Type 0} → (Entry P → Bool) → List (Entry P) → ℕ
counted t m = min (sizes_of t m) most_total

-- an entry's term is that of its first number's origin
abbrev pub entry_lapsed : ℕ → List (Entry Origin) → Entry Standing → Bool
entry_lapsed date os e = lapsed date (payload_found e.first os)

abbrev pub under_offer : ℕ → Entry Standing → Bool
under_offer k e = offered_under k e.payload

-- what an acceptance makes of an entry
abbrev pub accepted : ℕ → Account → Entry Standing → Standing
accepted k to e = cond (under_offer k e) (Held to) e.payload

abbrev pub or_next : Option ℕ → ℕ → Option (ℕ × ℕ) → Option (ℕ × ℕ)
or_next None number next = next
or_next (Some day) number next = Some (day, number)

-- the first entry under the offer that is past its term: its last valid day, and its first number
unfoldable pub first_overdue : ℕ → ℕ → List (Entry Origin) → List (Entry Standing) → Option (ℕ × ℕ)
first_overdue k date os [] = None
first_overdue k date os (e ∷ m) =
    cond (under_offer k e) (or_next (overdue date (payload_found e.first os)) e.first (first_overdue k date os m)) (first_overdue k date os m)

-- what a recall makes of an entry: the sender holds it again, unless it is past its term
abbrev pub recalled : ℕ → Account → ℕ → List (Entry Origin) → Entry Standing → Standing
recalled k from date os e = cond (under_offer k e) (cond (entry_lapsed date os e) Expired (Held from)) e.payload

-- an entry that a recall gives back
abbrev pub given_back : ℕ → ℕ → List (Entry Origin) → Entry Standing → Bool
given_back k date os e = under_offer k e && not (entry_lapsed date os e)

-- what the opening of a day makes of an entry: held ones past their term expire
abbrev pub expired : ℕ → List (Entry Origin) → Entry Standing → Standing
expired date os e = cond (is_held e.payload && entry_lapsed date os e) Expired e.payload

-- the holder's total falls by what expires
abbrev pub lowered : Standing → ℕ → Ledger Account → Ledger Account
lowered (Held a) n l = posted (is_account a) (Down n) (Up 0) l
lowered (Offered k) n l = l
lowered (Cancelled s) n l = l
lowered Expired n l = l

unfoldable pub lowered_all : ℕ → List (Entry Origin) → List (Entry Standing) → Ledger Account → Ledger Account
lowered_all date os [] l = l
lowered_all date os (e ∷ m) l = lowered_all date os m (cond (entry_lapsed date os e) (lowered e.payload (min (size e) most_total) l) l)
