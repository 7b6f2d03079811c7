-- Every booked call keeps the accounts' totals at what they count. Assumes nothing.
use Rattle.std.proofs.Common.{◌≡◌, ℕ, ◌+◌, ◌≤◌, Bool, true, false, cond, leb, ◌∷◌, Some, None, Option, sym, refl, ap, ◌∙◌, subst, ⊎_elim, arith}
use Rattle.std.proofs.lemmas.Bool.{both_ways, cases_Bool, leb-true, eq-eqb, ne_eqb, and_parts, cond-true, cond-false}
use Rattle.figures.specs.Limits.{most_total}
use Rattle.figures.specs.declared.accounts.Account.{Account}
use Rattle.figures.proofs.Orders.{account_order_total}
use Rattle.books.specs.Changes.{moved, posted}
use Rattle.books.specs.Ledger.{Ledger, present}
use Rattle.books.specs.declared.changes.Change.{Change}
use Rattle.books.specs.declared.changes.Change.TheVariants.{Up, Down}
use Rattle.books.proofs.Ledgers.{matches_self, matches_equal, tests_differ}
use Rattle.order_file.specs.declared.orders.Cancel.{Cancel}
use Rattle.order_file.specs.declared.orders.MakeOffer.{MakeOffer}
use Rattle.range_map.specs.Counts.{bit, how_many, passes}
use Rattle.range_map.specs.Plain.{within}
use Rattle.range_map.proofs.Sums.{how_many_split, how_many_same, how_many_range}
use Rattle.register.specs.Bookings.{opening, declaration, offering, acceptance_of, recall_of, day_opening}
use Rattle.register.specs.Bookings as book
use Rattle.register.specs.Holdings.{held_by}
use Rattle.register.specs.State.{State, is_account, account_from, has_account, range_size}
use Rattle.register.specs.declared.calls.Call.TheVariants as call
use Rattle.register.specs.declared.rows.Standing.{Standing}
use Rattle.register.specs.declared.rows.Standing.TheVariants.{Held, Offered, Cancelled, Expired}
use Rattle.reckoning.specs.Agreement.{totals_of}
use Rattle.reckoning.specs.Allowed.{HoldsAll, Offers, Cancels}
use Rattle.reckoning.specs.Reckoned.{History, today, issued_by, issued, is_next, origin, offers_made, closes, offer, cancellations_made, held_by_party, status, held_count, is_open}
use Rattle.reckoning.proofs.Invariant.{Sound, made_by, offered_by, offered_numbers, Totals}
use Rattle.reckoning.proofs.MemberTotals.{totals_changed_elsewhere, absent_0, Moves, up, down, stays, posted_to}
use Rattle.reckoning.proofs.SoundKept.{was_issued}
use Rattle.reckoning.proofs.Tallies.{count_few}

abbrev pub held_at : History → Account → ℕ → Bool
held_at h a n = passes (held_by a) (status h n)

abbrev pub offered_at : History → Account → ℕ → Bool
offered_at h a n = offered_by h a (status h n)

pub held_few : (h : History) → Sound h → (a : Account) → held_count h a ≤ most_total
unfolding held_count
held_few h sound a = omega (arith, count_few (held_at h a) (issued h) (ap (passes (held_by a)) sound.zero), sound.limit)

pub offered_few : (h : History) → Sound h → (a : Account) → offered_numbers h a ≤ most_total
unfolding offered_numbers
offered_few h sound a = omega (arith, count_few (offered_at h a) (issued h) (ap (offered_by h a) sound.zero), sound.limit)

-- totals of any account after a posting to account x
module _ (a x : Account) (f s : Change) (l : Ledger Account) (m n : ℕ) where
  abbrev pub Became : Ledger Account → Type 0
  Became k = ((totals_of (is_account a) k).0 ≡ m) × ((totals_of (is_account a) k).1 ≡ n)

  pub party : (is_account a x ≡ true → Moves (present (is_account a) l.members) f (totals_of (is_account a) l).0 m × Moves (present (is_account a) l.members) s (totals_of (is_account a) l).1 n) → (is_account a x ≡ false → Became l) → Became (posted (is_account x) f s l)
  party this other =
      ⊎_elim
      (λ b. let moves = this b in subst (λ y. Became (posted (is_account y) f s l)) (matches_equal account_order_total a x b) (posted_to (is_account a) f s l m n moves.0 moves.1))
      (λ b.
      let same = totals_changed_elsewhere (is_account a) (is_account x) (tests_differ account_order_total x a (λ e. both_ways _ b (ap (is_account a) e ∙ matches_self account_order_total a))) (moved f) (moved s) l in
      let kept = other b in
      (ap (λ t. t.0) same ∙ kept.0, ap (λ t. t.1) same ∙ kept.1))
      (cases_Bool (is_account a x))

-- an absent account counts nothing
module _ (h : History) (s : State) (totals : Totals h s) (a : Account) where
  pub none_held : present (is_account a) s.accounts.members ≡ false → (totals_of (is_account a) s.accounts).0 ≡ 0
  none_held b = ap (λ t. t.0) (absent_0 (is_account a) s.accounts b)

  pub none_offered : present (is_account a) s.accounts.members ≡ false → (totals_of (is_account a) s.accounts).1 ≡ 0
  none_offered b = ap (λ t. t.1) (absent_0 (is_account a) s.accounts b)

-- numbers f to l that account b holds get the standing p, which is not Held
module _ (h : History) (b : Account) (f l : ℕ) (held : HoldsAll h b f l) (p : Standing) (a : Account) (not_held : held_by a p ≡ false) where
  inside : (n : ℕ) → within f l n ≡ true → status h n ≡ Some (Held b)
  inside n t = let ends = and_parts (leb f n) (leb n l) t in held.each n (leb-true f n ends.0) (leb-true n l ends.1)

  put_held_same : is_account a b ≡ false → (n : ℕ) → passes (held_by a) (cond (within f l n) (Some p) (status h n)) ≡ held_at h a n
  put_held_same other n =
      ⊎_elim
      (λ t. ap (passes (held_by a)) (cond-true _ _ _ t) ∙ not_held ∙ sym (ap (passes (held_by a)) (inside n t) ∙ other))
      (λ t. ap (passes (held_by a)) (cond-false _ _ _ t))
      (cases_Bool (within f l n))

  put_held_split : is_account a b ≡ true → (n : ℕ) → bit (held_at h a n) ≡ bit (passes (held_by a) (cond (within f l n) (Some p) (status h n))) + bit (within f l n)
  put_held_split this n =
      ⊎_elim
      (λ t. ap bit (ap (passes (held_by a)) (inside n t) ∙ this) ∙ sym ((λ i. bit (passes (held_by a) (cond (t i) (Some p) (status h n))) + bit (t i)) ∙ ap (λ x. bit x + 1) not_held))
      (λ t. sym ((λ i. bit (passes (held_by a) (cond (t i) (Some p) (status h n))) + bit (t i)) ∙ omega arith))
      (cases_Bool (within f l n))

  range_count : Sound h → how_many (within f l) (issued h + 1) ≡ range_size f l
  range_count sound = how_many_range f l (issued h + 1) held.rising (omega (arith, was_issued h sound l (Held b) (held.each l held.rising (omega arith))))

-- an offer
module _ (h : History) (o : MakeOffer) (s : State) (sound : Sound h) (totals : Totals h s) (may : Offers h o) (known : has_account (account_from o.from) s ≡ true) where
  abbrev sender : Account
  sender = account_from o.from

  abbrev put : ℕ → Option Standing
  put n = cond (within o.first o.last n) (Some (Offered (offers_made h + 1))) (status h n)

  offer_now : offer (call.Offer o ∷ h) (offers_made h + 1) ≡ Some (book.offer_of o)
  unfolding offer
  offer_now = cond-true _ _ _ (eq-eqb (offers_made h + 1) (offers_made h + 1) refl)

  -- a number that stood offered under another offer stands so still
  offered_before : (a : Account) (n : ℕ) (x : Option Standing) → status h n ≡ x → offered_by (call.Offer o ∷ h) a x ≡ offered_by h a x
  unfolding offer
  offered_before a n None is = refl
  offered_before a n (Some (Held b)) is = refl
  offered_before a n (Some (Offered k)) is =
      let names = sound.offered_named n k is in
      ap (made_by a) (cond-false _ _ _ (ne_eqb k (offers_made h + 1) (λ e. both_ways false refl (sym (ap (λ y. Rattle.reckoning.specs.Reckoned.open_names y n) (sound.no_offer_past k (omega arith))) ∙ names))))
  offered_before a n (Some (Cancelled k)) is = refl
  offered_before a n (Some Expired) is = refl

  offered_inside : (a : Account) (n : ℕ) → within o.first o.last n ≡ true → offered_at h a n ≡ false
  offered_inside a n t = ap (offered_by h a) (inside h sender o.first o.last may.held Expired a refl n t)

  put_offered : (a : Account) (n : ℕ) → within o.first o.last n ≡ true → offered_by (call.Offer o ∷ h) a (put n) ≡ is_account a sender
  put_offered a n t = ap (offered_by (call.Offer o ∷ h) a) (cond-true _ _ _ t) ∙ ap (made_by a) offer_now

  put_kept : (a : Account) (n : ℕ) → within o.first o.last n ≡ false → offered_by (call.Offer o ∷ h) a (put n) ≡ offered_at h a n
  put_kept a n t = ap (offered_by (call.Offer o ∷ h) a) (cond-false _ _ _ t) ∙ offered_before a n (status h n) refl

  offered_split : (a : Account) → is_account a sender ≡ true → (n : ℕ) → bit (offered_by (call.Offer o ∷ h) a (put n)) ≡ bit (offered_at h a n) + bit (within o.first o.last n)
  offered_split a this n =
      ⊎_elim
      (λ t. ap bit (put_offered a n t ∙ this) ∙ sym (λ i. bit (offered_inside a n t i) + bit (t i)))
      (λ t. ap bit (put_kept a n t) ∙ omega (arith, ap bit t))
      (cases_Bool (within o.first o.last n))

  offered_same : (a : Account) → is_account a sender ≡ false → (n : ℕ) → offered_by (call.Offer o ∷ h) a (put n) ≡ offered_at h a n
  offered_same a other n =
      ⊎_elim (λ t. put_offered a n t ∙ other ∙ sym (offered_inside a n t)) (put_kept a n) (cases_Bool (within o.first o.last n))

  abbrev size : ℕ
  size = range_size o.first o.last

  held_falls : (a : Account) → is_account a sender ≡ true → held_count h a ≡ held_count (call.Offer o ∷ h) a + size
  unfolding held_count status issued
  held_falls a this =
      how_many_split (held_at h a) (λ n. passes (held_by a) (put n)) (within o.first o.last) (issued h + 1) (λ n _. put_held_split h sender o.first o.last may.held (Offered (offers_made h + 1)) a refl this n)
      ∙ ap (λ k. how_many (λ n. passes (held_by a) (put n)) (issued h + 1) + k) (range_count h sender o.first o.last may.held Expired a refl sound)

  held_stays : (a : Account) → is_account a sender ≡ false → held_count h a ≡ held_count (call.Offer o ∷ h) a
  unfolding held_count status issued
  held_stays a other = sym (how_many_same (λ n. passes (held_by a) (put n)) (held_at h a) (issued h + 1) (λ n _. put_held_same h sender o.first o.last may.held (Offered (offers_made h + 1)) a refl other n))

  offered_rises : (a : Account) → is_account a sender ≡ true → offered_numbers (call.Offer o ∷ h) a ≡ offered_numbers h a + size
  unfolding offered_numbers status issued
  offered_rises a this =
      how_many_split (λ n. offered_by (call.Offer o ∷ h) a (put n)) (offered_at h a) (within o.first o.last) (issued h + 1) (λ n _. offered_split a this n)
      ∙ ap (λ k. how_many (offered_at h a) (issued h + 1) + k) (range_count h sender o.first o.last may.held Expired a refl sound)

  offered_stays : (a : Account) → is_account a sender ≡ false → offered_numbers h a ≡ offered_numbers (call.Offer o ∷ h) a
  unfolding offered_numbers status issued
  offered_stays a other = sym (how_many_same (λ n. offered_by (call.Offer o ∷ h) a (put n)) (offered_at h a) (issued h + 1) (λ n _. offered_same a other n))

  offer_totals : Sound (call.Offer o ∷ h) → (a : Account) → ((totals_of (is_account a) (offering o s).accounts).0 ≡ held_count (call.Offer o ∷ h) a) × ((totals_of (is_account a) (offering o s).accounts).1 ≡ offered_numbers (call.Offer o ∷ h) a)
  offer_totals after a =
      party a sender (Down size) (Up size) s.accounts (held_count (call.Offer o ∷ h) a) (offered_numbers (call.Offer o ∷ h) a)
      (λ this. (
        down _ size _ _ (none_held h s totals a) (omega (arith, totals.held a, held_few h sound a)) (totals.held a ∙ held_falls a this),
        up _ size _ _ (ap (λ x. present (is_account x) s.accounts.members) (matches_equal account_order_total a sender this) ∙ known) (offered_few _ after a) (offered_rises a this ∙ ap (λ k. k + size) (sym (totals.offered a))),
      ))
      (λ other. (totals.held a ∙ held_stays a other, totals.offered a ∙ offered_stays a other))

  pub totals_offer : Sound (call.Offer o ∷ h) → Totals (call.Offer o ∷ h) (offering o s)
  totals_offer after = record { held = λ a. (offer_totals after a).0; offered = λ a. (offer_totals after a).1 }

-- a cancellation
module _ (h : History) (o : Cancel) (s : State) (sound : Sound h) (totals : Totals h s) (may : Cancels h o) where
  abbrev holder : Account
  holder = account_from o.account

  abbrev cancelled : ℕ → Option Standing
  cancelled n = cond (within o.first o.last n) (Some (Cancelled (cancellations_made h + 1))) (status h n)

  abbrev cancelled_size : ℕ
  cancelled_size = range_size o.first o.last

  none_more_held : (a : Account) → is_account a holder ≡ true → held_count h a ≡ held_count (call.Cancellation o ∷ h) a + cancelled_size
  unfolding held_count status issued
  none_more_held a this =
      how_many_split (held_at h a) (λ n. passes (held_by a) (cancelled n)) (within o.first o.last) (issued h + 1) (λ n _. put_held_split h holder o.first o.last may.held (Cancelled (cancellations_made h + 1)) a refl this n)
      ∙ ap (λ k. how_many (λ n. passes (held_by a) (cancelled n)) (issued h + 1) + k) (range_count h holder o.first o.last may.held Expired a refl sound)

  others_hold : (a : Account) → is_account a holder ≡ false → held_count h a ≡ held_count (call.Cancellation o ∷ h) a
  unfolding held_count status issued
  others_hold a other = sym (how_many_same (λ n. passes (held_by a) (cancelled n)) (held_at h a) (issued h + 1) (λ n _. put_held_same h holder o.first o.last may.held (Cancelled (cancellations_made h + 1)) a refl other n))

  none_offered_here : (a : Account) (n : ℕ) → offered_by h a (cancelled n) ≡ offered_at h a n
  none_offered_here a n =
      ⊎_elim
      (λ t. ap (offered_by h a) (cond-true _ _ _ t) ∙ sym (ap (offered_by h a) (inside h holder o.first o.last may.held Expired a refl n t)))
      (λ t. ap (offered_by h a) (cond-false _ _ _ t))
      (cases_Bool (within o.first o.last n))

  -- the offers are the same, so only the standings could differ
  by_offers : (a : Account) (x : Option Standing) → offered_by (call.Cancellation o ∷ h) a x ≡ offered_by h a x
  unfolding offer
  by_offers a None = refl
  by_offers a (Some (Held b)) = refl
  by_offers a (Some (Offered k)) = refl
  by_offers a (Some (Cancelled k)) = refl
  by_offers a (Some Expired) = refl

  offers_stand : (a : Account) → offered_numbers h a ≡ offered_numbers (call.Cancellation o ∷ h) a
  unfolding offered_numbers status issued
  offers_stand a = sym (how_many_same (λ n. offered_by (call.Cancellation o ∷ h) a (cancelled n)) (offered_at h a) (issued h + 1) (λ n _. by_offers a (cancelled n) ∙ none_offered_here a n))

  cancelled_totals : (a : Account) → ((totals_of (is_account a) (book.cancellation o s).accounts).0 ≡ held_count (call.Cancellation o ∷ h) a) × ((totals_of (is_account a) (book.cancellation o s).accounts).1 ≡ offered_numbers (call.Cancellation o ∷ h) a)
  cancelled_totals a =
      party a holder (Down cancelled_size) (Up 0) s.accounts (held_count (call.Cancellation o ∷ h) a) (offered_numbers (call.Cancellation o ∷ h) a)
      (λ this. (
        down _ cancelled_size _ _ (none_held h s totals a) (omega (arith, totals.held a, held_few h sound a)) (totals.held a ∙ none_more_held a this),
        stays _ _ _ (none_offered h s totals a) (omega (arith, totals.offered a, offered_few h sound a)) (sym (totals.offered a ∙ offers_stand a)),
      ))
      (λ other. (totals.held a ∙ others_hold a other, totals.offered a ∙ offers_stand a))

  pub totals_cancellation : Totals (call.Cancellation o ∷ h) (book.cancellation o s)
  totals_cancellation = record { held = λ a. (cancelled_totals a).0; offered = λ a. (cancelled_totals a).1 }
