-- The checks of an offer, as the code takes them. Assumes nothing.
use Rattle.std.proofs.Common.{◌≡◌, ℕ, ◌+◌, ◌^◌, ◌≤◌, Bool, true, false, cond, not, ◌||◌, ltb, leb, List, [], ◌∷◌, length, Some, None, Ok, Err, Option, Result, sym, refl, ap, ◌∙◌, subst, ⊎_elim, arith}
use Rattle.std.proofs.lemmas.Bool.{both_ways, cases_Bool, cases_lt, lt-ltb, le-ltb, le-leb, lt-leb, ltb-true, ltb-false, or_parts, cond-true, cond-false}
use Rattle.figures.specs.Limits.{last_certificate_number}
use Rattle.figures.specs.declared.accounts.Account.{Account}
use Rattle.figures.specs.declared.names.Table.TheVariants.{Standings, Offers}
use Rattle.order_file.specs.Checked.{plain_offer}
use Rattle.order_file.specs.Checks.{bad_offer}
use Rattle.order_file.specs.declared.checked.OfferTerms.{OfferTerms}
use Rattle.order_file.specs.declared.orders.MakeOffer.{MakeOffer}
use Rattle.range_map.specs.Map.{change_answer}
use Rattle.range_map.specs.Placed.{rest, uncovered, cuts_in}
use Rattle.range_map.specs.Plain.{bad, gap, gap_by}
use Rattle.range_map.specs.Replies.{change_reply}
use Rattle.range_map.specs.declared.entry.Entry.{Entry}
use Rattle.range_map.specs.declared.fault.MapFault.{MapFault}
use Rattle.range_map.specs.declared.fault.MapFault.TheVariants as range
use Rattle.register.specs.Checks.{bad_at, account_known, holds, has_row, cuts_fit, not_held_at, offer_checks, to_itself}
use Rattle.register.specs.Faults.{unless}
use Rattle.register.specs.Holdings.{held_by, unheld}
use Rattle.register.specs.State.{State}
use Rattle.register.specs.declared.faults.Fault.{Fault}
use Rattle.register.specs.declared.faults.Fault.TheVariants.{Map}
use Rattle.register.specs.declared.rows.Standing.{Standing}
use Rattle.register.proofs.Verdicts.{Reaches, pass}

-- a walk that meets no gap in what passes meets none in what is covered
gap_weaker : {P : Type 0} (t : P → Bool) (f l : ℕ) (m : List (Entry P)) → gap_by t f l m ≡ None → gap f l m ≡ None
unfolding gap_by gap
gap_weaker t f l [] h = let z : ◌≡◌ {A = ℕ} 0 1 = cc in absurd (omega arith)
gap_weaker t f l (e ∷ m) h =
    ⊎_elim
    (λ lt. cond-true _ _ _ (lt-ltb e.last f lt) ∙ gap_weaker t f l m (sym (cond-true _ _ _ (lt-ltb e.last f lt)) ∙ h))
    (λ ge.
    let h₁ = sym (cond-false _ _ _ (le-ltb e.last f ge)) ∙ h in
    cond-false _ _ _ (le-ltb e.last f ge)
    ∙ ⊎_elim
    (λ b. absurd (some_none (sym (cond-true _ _ _ b) ∙ h₁)))
    (λ b.
    let h₂ = sym (cond-false _ _ _ b) ∙ h₁ in
    let parts = or_parts (ltb f e.first) (not (t e.payload)) b in
    cond-false _ _ _ parts.0
    ∙ ⊎_elim
    (λ short. cond-true _ _ _ (lt-ltb e.last l short) ∙ gap_weaker t (e.last + 1) l m (sym (cond-true _ _ _ (lt-ltb e.last l short)) ∙ h₂))
    (λ reach. cond-false _ _ _ (le-ltb e.last l reach))
    (cases_lt e.last l))
    (cases_Bool (ltb f e.first || not (t e.payload))))
    (cases_lt e.last f)
  where
    some_none : {x : ℕ} → Some x ≡ None → ⊥
    some_none {x} e = let z : ◌≡◌ {A = ℕ} 0 1 = cc in omega arith

-- numbers that are held are covered
pub held_covered : (a : Account) (f l : ℕ) (m : List (Entry Standing)) → unheld a f l m ≡ None → uncovered f l m ≡ None
unfolding unheld uncovered
held_covered a f l m h = gap_weaker (held_by a) f l (rest f m) h

pub not_held_none : (o : Option ℕ) → None ≡ not_held_at o → o ≡ None
not_held_none None h = refl
not_held_none (Some n) h = let z : ◌≡◌ {A = ℕ} 0 1 = cc in absurd (omega arith)

-- within the limits of certificate numbers a range is not bad
pub good_numbers : (f l : ℕ) → f ≤ l → l ≤ last_certificate_number → bad f l ≡ false
good_numbers f l le few = Rattle.std.proofs.lemmas.Bool.or_from _ _ (le-ltb l f le) (lt-leb (2 ^ 62) l (omega arith))

abbrev done : Result (Unit {0}) MapFault
done = Ok tt

module _ (slots f l : ℕ) (m : List (Entry Standing)) (r : Result (Unit {0}) MapFault) (replied : r ≡ change_answer Standings slots f l m) (good : bad f l ≡ false) (covered : uncovered f l m ≡ None) where
  abbrev crowded : Bool
  crowded = ltb slots (length m + cuts_in f l m)

  reply_is : r ≡ cond crowded (Err (range.Full Standings)) done
  reply_is = replied ∙ (λ i. change_reply Standings (good i) (covered i) crowded)

  -- the reply of the map's own test is the last check
  pub change_full : (f' : MapFault) → r ≡ Err f' → Some (Map f') ≡ unless (leb (length m + cuts_in f l m) slots) (Map (range.Full Standings))
  change_full f' e = way crowded refl (sym e ∙ reply_is)
    where
      way : (b : Bool) → crowded ≡ b → ◌≡◌ {A = Result (Unit {0}) MapFault} (Err f') (cond b (Err (range.Full Standings)) done) → Some (Map f') ≡ unless (leb (length m + cuts_in f l m) slots) (Map (range.Full Standings))
      way true t q =
          let same : f' ≡ range.Full Standings = cc in
          ap (λ x. Some (Map x)) same ∙ ap (λ b. unless b (Map (range.Full Standings))) (sym (lt-leb (length m + cuts_in f l m) slots (ltb-true slots (length m + cuts_in f l m) t)))
      way false t q = let z : ◌≡◌ {A = ℕ} 0 1 = cc in absurd (omega arith)

  pub change_fits : r ≡ done → None ≡ unless (leb (length m + cuts_in f l m) slots) (Map (range.Full Standings))
  change_fits e = way crowded refl (sym e ∙ reply_is)
    where
      way : (b : Bool) → crowded ≡ b → done ≡ cond b (Err (range.Full Standings)) done → None ≡ unless (leb (length m + cuts_in f l m) slots) (Map (range.Full Standings))
      way true t q = let z : ◌≡◌ {A = ℕ} 0 1 = cc in absurd (omega arith)
      way false t q = ap (λ b. unless b (Map (range.Full Standings))) (sym (le-leb (length m + cuts_in f l m) slots (ltb-false slots (length m + cuts_in f l m) t)))

-- the checks up to the parties, passed
module _ (o : MakeOffer) (t : OfferTerms) (s : State) (checked : plain_offer t ≡ o) where
  abbrev numbers : List (Option Fault)
  numbers = holds t.from t.numbers.first.0 t.numbers.last.0 s ∷ has_row Offers s.offered s.offers ∷ cuts_fit t.numbers.first.0 t.numbers.last.0 s ∷ []

  pub to_receiver : {v : Option Fault} → None ≡ bad_at (bad_offer o) → None ≡ to_itself t.from t.to → None ≡ account_known t.from s → Reaches v (account_known t.to s ∷ numbers) → Reaches v (offer_checks o s)
  to_receiver {v} operands differ from rest =
      subst (λ x. None ≡ bad_at (bad_offer x) → Reaches v (offer_checks x s)) checked
      (λ lawful. pass lawful (pass differ (pass from rest))) operands

  pub to_numbers : {v : Option Fault} → None ≡ bad_at (bad_offer o) → None ≡ to_itself t.from t.to → None ≡ account_known t.from s → None ≡ account_known t.to s → Reaches v numbers → Reaches v (offer_checks o s)
  to_numbers operands differ from to rest = to_receiver operands differ from (pass to rest)
