-- Every permitted call keeps the reckoning sound. Assumes nothing.
use Rattle.std.proofs.Common.{◌≡◌, ℕ, ◌+◌, ◌/◌, ◌<◌, ◌≤◌, Bool, true, false, cond, ◌&&◌, eqb, leb, ◌⊎◌, [], ◌∷◌, is_some, Some, None, Option, sym, refl, ap, ◌∙◌, subst, inl, inr, ⊎_elim, arith}
use Rattle.std.proofs.lemmas.Bool.{both_ways, cases_Bool, cases_eq, cases_lt, lt-ltb, le-ltb, le-leb, lt-leb, leb-true, eq-eqb, ne_eqb, eqb-true, and_parts, and_from, and_left, and_right, cond-true, cond-false, cond_both}
use Rattle.std.proofs.lemmas.Bool.Decides.{nat_tests}
use Rattle.std.specs.Option.{option_map}
use Rattle.figures.specs.Limits.{certificate_size}
use Rattle.figures.specs.declared.accounts.Account.{Account}
use Rattle.order_file.specs.declared.orders.AcceptOffer.{AcceptOffer}
use Rattle.order_file.specs.declared.orders.Cancel.{Cancel}
use Rattle.order_file.specs.declared.orders.Declare.{Declare}
use Rattle.order_file.specs.declared.orders.MakeOffer.{MakeOffer}
use Rattle.order_file.specs.declared.orders.NewDay.{NewDay}
use Rattle.order_file.specs.declared.orders.RecallOffer.{RecallOffer}
use Rattle.range_map.specs.Counts.{passes}
use Rattle.range_map.specs.Plain.{within}
use Rattle.register.specs.Bookings.{offer_of, in_state, cancellation_of}
use Rattle.register.specs.Holdings.{is_held, offered_under}
use Rattle.register.specs.State.{is_device, account_from}
use Rattle.register.specs.Terms.{lapsed, valid_until}
use Rattle.register.specs.declared.calls.Call.{Call}
use Rattle.register.specs.declared.calls.Call.TheVariants as call
use Rattle.register.specs.declared.rows.Offer.{Offer}
use Rattle.register.specs.declared.rows.OfferState.{OfferState}
use Rattle.register.specs.declared.rows.OfferState.TheVariants.{Accepted, Recalled}
use Rattle.register.specs.declared.rows.Standing.{Standing}
use Rattle.register.specs.declared.rows.Standing.TheVariants.{Held, Offered, Cancelled, Expired}
use Rattle.reckoning.specs.Allowed.{HoldsAll, Declares, Offers, Answers, Accepts, Cancels, Permitted}
use Rattle.reckoning.specs.Reckoned.{History, today, declared, due_to, issued_by, issued, is_next, origin, offers_made, closes, offer, cancellations_made, cancellation, held_by_party, status, is_open, open_names, cancel_names}
use Rattle.reckoning.proofs.Invariant.{Sound}

-- which way a test went
pub split : {X : Type 0} (b : Bool) (x y z : X) → cond b x y ≡ z → ((b ≡ true) × (x ≡ z)) ⊎ ((b ≡ false) × (y ≡ z))
split true x y z h = inl (refl, h)
split false x y z h = inr (refl, h)

-- standings of different kinds differ
pub none_some : {X : Type 0} {x : X} → None ≡ Some x → ⊥
none_some {X} {x} h = let z : ◌≡◌ {A = ℕ} 0 1 = cc in omega arith

pub held_offered : {a : Account} {k : ℕ} → Some (Held a) ≡ Some (Offered k) → ⊥
held_offered {a} {k} h = let z : ◌≡◌ {A = ℕ} 0 1 = cc in omega arith

pub held_cancelled : {a : Account} {k : ℕ} → Some (Held a) ≡ Some (Cancelled k) → ⊥
held_cancelled {a} {k} h = let z : ◌≡◌ {A = ℕ} 0 1 = cc in omega arith

pub offered_cancelled : {j k : ℕ} → Some (Offered j) ≡ Some (Cancelled k) → ⊥
offered_cancelled {j} {k} h = let z : ◌≡◌ {A = ℕ} 0 1 = cc in omega arith

pub expired_held : {a : Account} → Some Expired ≡ Some (Held a) → ⊥
expired_held {a} h = let z : ◌≡◌ {A = ℕ} 0 1 = cc in omega arith

pub expired_offered : {k : ℕ} → Some Expired ≡ Some (Offered k) → ⊥
expired_offered {k} h = let z : ◌≡◌ {A = ℕ} 0 1 = cc in omega arith

pub expired_cancelled : {k : ℕ} → Some Expired ≡ Some (Cancelled k) → ⊥
expired_cancelled {k} h = let z : ◌≡◌ {A = ℕ} 0 1 = cc in omega arith

offered_same : (j k : ℕ) → Some (Offered j) ≡ Some (Offered k) → j ≡ k
offered_same j k h = cc

cancelled_same : (j k : ℕ) → Some (Cancelled j) ≡ Some (Cancelled k) → j ≡ k
cancelled_same j k h = cc

pub same_device : (d e : ℕ) → is_device d e ≡ true → d ≡ e
same_device d e h = grind (arith, nat_tests)

-- a number with a status was issued
pub was_issued : (h : History) → Sound h → (n : ℕ) (x : Standing) → status h n ≡ Some x → n ≤ issued h
was_issued h sound n x is = ⊎_elim (λ past. absurd (none_some (sym (sound.fresh n past) ∙ is))) (λ le. le) (cases_lt (issued h) n)

-- an offer that names a number was made
named_made : (h : History) → Sound h → (n k : ℕ) → open_names (offer h k) n ≡ true → k ≤ offers_made h
named_made h sound n k names =
    ⊎_elim (λ past. absurd (both_ways false refl (sym (ap (λ x. open_names x n) (sound.no_offer_past k past)) ∙ names))) (λ le. le) (cases_lt (offers_made h) k)

named_booked : (h : History) → Sound h → (n k : ℕ) → cancel_names (cancellation h k) n ≡ true → k ≤ cancellations_made h
named_booked h sound n k names =
    ⊎_elim (λ past. absurd (both_ways false refl (sym (ap (λ x. cancel_names x n) (sound.no_cancellation_past k past)) ∙ names))) (λ le. le) (cases_lt (cancellations_made h) k)

-- nothing yet
pub sound_none : Sound []
unfolding status issued declared offer cancellation offers_made cancellations_made
sound_none = record {
  covered = λ n low high. absurd (omega arith);
  fresh = λ n past. refl;
  zero = refl;
  limit = omega arith;
  due = λ d. omega arith;
  offered_named = λ n k h. absurd (none_some h);
  named_offered = λ n k h. absurd (both_ways false refl h);
  cancelled_named = λ n k h. absurd (none_some h);
  named_cancelled = λ n k h. absurd (both_ways false refl h);
  no_offer_0 = refl;
  no_offer_past = λ k past. refl;
  no_cancellation_past = λ k past. refl;
  offer_range = λ k f h. absurd (none_some h);
  within_term = λ n a h. absurd (none_some h);
}

-- a declaration
module _ (h : History) (o : Declare) (sound : Sound h) (may : Declares h o) where
  next : (n : ℕ) → issued h < n → n ≤ issued h + issued_by h o → is_next h o n ≡ true
  next n low high = and_from _ _ (lt-ltb (issued h) n low) (le-leb n (issued h + issued_by h o) high)

  not_next_low : (n : ℕ) → n ≤ issued h → is_next h o n ≡ false
  not_next_low n le = and_left _ _ (le-ltb (issued h) n le)

  not_next_high : (n : ℕ) → issued h + issued_by h o < n → is_next h o n ≡ false
  not_next_high n past = and_right _ _ (lt-leb n (issued h + issued_by h o) past)

  status_low : (n : ℕ) → n ≤ issued h → status (call.Declaration o ∷ h) n ≡ status h n
  unfolding status
  status_low n le = cond-false _ _ _ (not_next_low n le)

  status_before : (n : ℕ) (x : Standing) → status h n ≡ Some x → status (call.Declaration o ∷ h) n ≡ Some x
  status_before n x is = status_low n (was_issued h sound n x is) ∙ is

  -- a status that is not Held is an old one
  was : (n : ℕ) (x : Standing) → status (call.Declaration o ∷ h) n ≡ Some x → ((is_next h o n ≡ true) × (Some (Held (account_from o.account)) ≡ Some x)) ⊎ ((is_next h o n ≡ false) × (status h n ≡ Some x))
  unfolding status
  was n x is = split (is_next h o n) (Some (Held (account_from o.account))) (status h n) (Some x) is

  due_after : (d : ℕ) → due_to (call.Declaration o ∷ h) d ≤ issued h + issued_by h o
  unfolding declared
  due_after d =
      cond_both {A = ℕ} (is_device d o.device) o.energy 0 (λ e. (declared h d + e) / certificate_size ≤ issued h + issued_by h o)
      (λ b. subst (λ x. (declared h x + o.energy) / certificate_size ≤ issued h + issued_by h o) (sym (same_device d o.device b)) (omega (arith, sound.due o.device)))
      (λ b. omega (arith, sound.due d))

  term_of : (n : ℕ) → is_next h o n ≡ true → lapsed (today h) (origin (call.Declaration o ∷ h) n) ≡ false
  unfolding origin
  term_of n among_next =
      let within_term = may.within_term in
      ap (lapsed (today h)) (cond-true _ _ _ among_next)
      ∙ ap is_some (cond-false _ _ _ (le-ltb (valid_until o.last_day) (today h) may.within_term))

  term_kept : (n : ℕ) → is_next h o n ≡ false → origin (call.Declaration o ∷ h) n ≡ origin h n
  unfolding origin
  term_kept n not_next = cond-false _ _ _ not_next

  covered_new : (n : ℕ) → issued h < n → n ≤ issued h + issued_by h o → status (call.Declaration o ∷ h) n ≡ Some (Held (account_from o.account))
  unfolding status
  covered_new n low high = cond-true _ _ _ (next n low high)

  fresh_past : (n : ℕ) → issued h + issued_by h o < n → status (call.Declaration o ∷ h) n ≡ None
  unfolding status
  fresh_past n past = cond-false _ _ _ (not_next_high n past) ∙ sound.fresh n (omega arith)

  pub sound_declaration : Sound (call.Declaration o ∷ h)
  unfolding issued offer cancellation offers_made cancellations_made today
  sound_declaration = record {
    covered = λ n low high. ⊎_elim (λ new. ap is_some (covered_new n new high)) (λ le. ap is_some (status_low n le) ∙ sound.covered n low le) (cases_lt (issued h) n);
    fresh = fresh_past;
    zero = status_low 0 (omega arith) ∙ sound.zero;
    limit = may.numbers;
    due = due_after;
    offered_named = λ n k is. ⊎_elim (λ p. absurd (held_offered p.1)) (λ p. sound.offered_named n k p.1) (was n (Offered k) is);
    named_offered = λ n k names. status_before n (Offered k) (sound.named_offered n k names);
    cancelled_named = λ n k is. ⊎_elim (λ p. absurd (held_cancelled p.1)) (λ p. sound.cancelled_named n k p.1) (was n (Cancelled k) is);
    named_cancelled = λ n k names. status_before n (Cancelled k) (sound.named_cancelled n k names);
    no_offer_0 = sound.no_offer_0;
    no_offer_past = sound.no_offer_past;
    no_cancellation_past = sound.no_cancellation_past;
    offer_range = λ k f made. let r = sound.offer_range k f made in (r.0, r.1, omega (arith, r.2));
    within_term = λ n a is. ⊎_elim (λ p. term_of n p.0) (λ p. ap (lapsed (today h)) (term_kept n p.0) ∙ sound.within_term n a p.1) (was n (Held a) is);
  }

-- numbers of a range that one account holds get another standing: what an offer and a cancellation have in common
module _ (h : History) (a : Account) (f l : ℕ) (sound : Sound h) (held : HoldsAll h a f l) (p : Standing) where
  abbrev put : ℕ → Option Standing
  put n = cond (within f l n) (Some p) (status h n)

  in_range : (n : ℕ) → within f l n ≡ true → status h n ≡ Some (Held a)
  in_range n b = let ends = and_parts (leb f n) (leb n l) b in held.each n (leb-true f n ends.0) (leb-true n l ends.1)

  put_covered : (n : ℕ) → 1 ≤ n → n ≤ issued h → is_some (put n) ≡ true
  put_covered n low high = cond_both {A = Option Standing} (within f l n) (Some p) (status h n) (λ x. is_some x ≡ true) (λ _. refl) (λ _. sound.covered n low high)

  put_fresh : (n : ℕ) → issued h < n → put n ≡ None
  put_fresh n past =
      ⊎_elim (λ b. absurd (none_some (sym (sound.fresh n past) ∙ in_range n b))) (λ b. cond-false _ _ _ b ∙ sound.fresh n past) (cases_Bool (within f l n))

  put_zero : put 0 ≡ None
  put_zero = cond-false _ _ _ (and_left (leb f 0) (leb 0 l) (lt-leb f 0 held.from_one)) ∙ sound.zero

  -- a number that was not held by the account keeps its status
  put_other : (n : ℕ) (x : Standing) → (Some (Held a) ≡ Some x → ⊥) → status h n ≡ Some x → put n ≡ Some x
  put_other n x differs is = ⊎_elim (λ b. absurd (differs (sym (in_range n b) ∙ is))) (λ b. cond-false _ _ _ b ∙ is) (cases_Bool (within f l n))

  put_inside : (n : ℕ) → within f l n ≡ true → put n ≡ Some p
  put_inside n b = cond-true _ _ _ b

  was_put : (n : ℕ) (x : Standing) → put n ≡ Some x → ((within f l n ≡ true) × (Some p ≡ Some x)) ⊎ ((within f l n ≡ false) × (status h n ≡ Some x))
  was_put n x is = split (within f l n) (Some p) (status h n) (Some x) is

  range_issued : (1 ≤ f) × (f ≤ l) × (l ≤ issued h)
  range_issued = (held.from_one, held.rising, was_issued h sound l (Held a) (held.each l held.rising (omega arith)))

-- an offer
module _ (h : History) (o : MakeOffer) (sound : Sound h) (may : Offers h o) where
  offer_new : (k : ℕ) → k ≡ offers_made h + 1 → offer (call.Offer o ∷ h) k ≡ Some (offer_of o)
  unfolding offer
  offer_new k is = cond-true _ _ _ (eq-eqb k (offers_made h + 1) is)

  offer_old : (k : ℕ) → (k ≡ offers_made h + 1 → ⊥) → offer (call.Offer o ∷ h) k ≡ offer h k
  unfolding offer
  offer_old k differs = cond-false _ _ _ (ne_eqb k (offers_made h + 1) differs)

  made_old : (n k : ℕ) → open_names (offer h k) n ≡ true → offer (call.Offer o ∷ h) k ≡ offer h k
  made_old n k names = let made = named_made h sound n k names in offer_old k (λ is. omega arith)

  abbrev new : Standing
  new = Offered (offers_made h + 1)

  abbrev sender : Account
  sender = account_from o.from

  offered_after : (n k : ℕ) → put h sender o.first o.last sound may.held new n ≡ Some (Offered k) → open_names (offer (call.Offer o ∷ h) k) n ≡ true
  offered_after n k is =
      ⊎_elim
      (λ p. ap (λ x. open_names x n) (offer_new k (sym (offered_same _ k p.1))) ∙ p.0)
      (λ p. let names = sound.offered_named n k p.1 in ap (λ x. open_names x n) (made_old n k names) ∙ names)
      (was_put h sender o.first o.last sound may.held new n (Offered k) is)

  named_after : (n k : ℕ) → open_names (offer (call.Offer o ∷ h) k) n ≡ true → put h sender o.first o.last sound may.held new n ≡ Some (Offered k)
  named_after n k names =
      ⊎_elim
      (λ is. put_inside h sender o.first o.last sound may.held new n (sym (ap (λ x. open_names x n) (offer_new k is)) ∙ names) ∙ ap (λ j. Some (Offered j)) (sym is))
      (λ differs. put_other h sender o.first o.last sound may.held new n (Offered k) held_offered (sound.named_offered n k (sym (ap (λ x. open_names x n) (offer_old k differs)) ∙ names)))
      (cases_eq k (offers_made h + 1))

  range_after : (k : ℕ) (f : Offer) → offer (call.Offer o ∷ h) k ≡ Some f → (1 ≤ f.first.0) × (f.first.0 ≤ f.last.0) × (f.last.0 ≤ issued h)
  range_after k f is =
      ⊎_elim
      (λ new. let same : offer_of o ≡ f = let e = sym (offer_new k new) ∙ is in cc in subst (λ x. (1 ≤ x.first.0) × (x.first.0 ≤ x.last.0) × (x.last.0 ≤ issued h)) same (range_issued h sender o.first o.last sound may.held (Offered 0)))
      (λ old. sound.offer_range k f (sym (offer_old k old) ∙ is))
      (cases_eq k (offers_made h + 1))

  pub sound_offer : Sound (call.Offer o ∷ h)
  unfolding status issued cancellation offers_made cancellations_made today origin declared
  sound_offer = record {
    covered = put_covered h sender o.first o.last sound may.held new;
    fresh = put_fresh h sender o.first o.last sound may.held new;
    zero = put_zero h sender o.first o.last sound may.held new;
    limit = sound.limit;
    due = sound.due;
    offered_named = offered_after;
    named_offered = named_after;
    cancelled_named = λ n k is. ⊎_elim (λ p. absurd (offered_cancelled p.1)) (λ p. sound.cancelled_named n k p.1) (was_put h sender o.first o.last sound may.held new n (Cancelled k) is);
    named_cancelled = λ n k names. put_other h sender o.first o.last sound may.held new n (Cancelled k) held_cancelled (sound.named_cancelled n k names);
    no_offer_0 = offer_old 0 (λ is. omega arith) ∙ sound.no_offer_0;
    no_offer_past = λ k past. offer_old k (λ is. omega arith) ∙ sound.no_offer_past k (omega arith);
    no_cancellation_past = sound.no_cancellation_past;
    offer_range = range_after;
    within_term = λ n a is. ⊎_elim (λ p. absurd (held_offered (sym p.1))) (λ p. sound.within_term n a p.1) (was_put h sender o.first o.last sound may.held new n (Held a) is);
  }

-- a cancellation
module _ (h : History) (o : Cancel) (sound : Sound h) (may : Cancels h o) where
  cancellation_new : (k : ℕ) → k ≡ cancellations_made h + 1 → cancellation (call.Cancellation o ∷ h) k ≡ Some (cancellation_of (today h) o)
  unfolding cancellation
  cancellation_new k is = cond-true _ _ _ (eq-eqb k (cancellations_made h + 1) is)

  cancellation_old : (k : ℕ) → (k ≡ cancellations_made h + 1 → ⊥) → cancellation (call.Cancellation o ∷ h) k ≡ cancellation h k
  unfolding cancellation
  cancellation_old k differs = cond-false _ _ _ (ne_eqb k (cancellations_made h + 1) differs)

  booked_old : (n k : ℕ) → cancel_names (cancellation h k) n ≡ true → cancellation (call.Cancellation o ∷ h) k ≡ cancellation h k
  booked_old n k names = let made = named_booked h sound n k names in cancellation_old k (λ is. omega arith)

  abbrev now_cancelled : Standing
  now_cancelled = Cancelled (cancellations_made h + 1)

  abbrev holder : Account
  holder = account_from o.account

  cancelled_after : (n k : ℕ) → put h holder o.first o.last sound may.held now_cancelled n ≡ Some (Cancelled k) → cancel_names (cancellation (call.Cancellation o ∷ h) k) n ≡ true
  cancelled_after n k is =
      ⊎_elim
      (λ p. ap (λ x. cancel_names x n) (cancellation_new k (sym (cancelled_same _ k p.1))) ∙ p.0)
      (λ p. let names = sound.cancelled_named n k p.1 in ap (λ x. cancel_names x n) (booked_old n k names) ∙ names)
      (was_put h holder o.first o.last sound may.held now_cancelled n (Cancelled k) is)

  named_cancelled_after : (n k : ℕ) → cancel_names (cancellation (call.Cancellation o ∷ h) k) n ≡ true → put h holder o.first o.last sound may.held now_cancelled n ≡ Some (Cancelled k)
  named_cancelled_after n k names =
      ⊎_elim
      (λ is. put_inside h holder o.first o.last sound may.held now_cancelled n (sym (ap (λ x. cancel_names x n) (cancellation_new k is)) ∙ names) ∙ ap (λ j. Some (Cancelled j)) (sym is))
      (λ differs. put_other h holder o.first o.last sound may.held now_cancelled n (Cancelled k) held_cancelled (sound.named_cancelled n k (sym (ap (λ x. cancel_names x n) (cancellation_old k differs)) ∙ names)))
      (cases_eq k (cancellations_made h + 1))

  pub sound_cancellation : Sound (call.Cancellation o ∷ h)
  unfolding status issued offer offers_made cancellations_made today origin declared
  sound_cancellation = record {
    covered = put_covered h holder o.first o.last sound may.held now_cancelled;
    fresh = put_fresh h holder o.first o.last sound may.held now_cancelled;
    zero = put_zero h holder o.first o.last sound may.held now_cancelled;
    limit = sound.limit;
    due = sound.due;
    offered_named = λ n k is. ⊎_elim (λ p. absurd (offered_cancelled (sym p.1))) (λ p. sound.offered_named n k p.1) (was_put h holder o.first o.last sound may.held now_cancelled n (Offered k) is);
    named_offered = λ n k names. put_other h holder o.first o.last sound may.held now_cancelled n (Offered k) held_offered (sound.named_offered n k names);
    cancelled_named = cancelled_after;
    named_cancelled = named_cancelled_after;
    no_offer_0 = sound.no_offer_0;
    no_offer_past = sound.no_offer_past;
    no_cancellation_past = λ k past. cancellation_old k (λ is. omega arith) ∙ sound.no_cancellation_past k (omega arith);
    offer_range = sound.offer_range;
    within_term = λ n a is. ⊎_elim (λ p. absurd (held_cancelled (sym p.1))) (λ p. sound.within_term n a p.1) (was_put h holder o.first o.last sound may.held now_cancelled n (Held a) is);
  }

pub under_offer_lem : (k : ℕ) (x : Option Standing) → passes (offered_under k) x ≡ true → x ≡ Some (Offered k)
under_offer_lem k None h = absurd (both_ways false refl h)
under_offer_lem k (Some (Held a)) h = absurd (both_ways false refl h)
under_offer_lem k (Some (Offered j)) h = ap (λ i. Some (Offered i)) (eqb-true j k h)
under_offer_lem k (Some (Cancelled j)) h = absurd (both_ways false refl h)
under_offer_lem k (Some Expired) h = absurd (both_ways false refl h)

-- the numbers of an open offer get other standings and the offer is closed: what an acceptance and a recall have in common
module _ (h : History) (k : ℕ) (f : Offer) (sound : Sound h) (made : offer h k ≡ Some f) (state : OfferState) (closed : is_open state ≡ false) (y : ℕ → Standing) where
  abbrev freed : ℕ → Option Standing
  freed n = cond (passes (offered_under k) (status h n)) (Some (y n)) (status h n)

  freed_covered : (n : ℕ) → 1 ≤ n → n ≤ issued h → is_some (freed n) ≡ true
  freed_covered n low high = cond_both {A = Option Standing} (passes (offered_under k) (status h n)) (Some (y n)) (status h n) (λ x. is_some x ≡ true) (λ _. refl) (λ _. sound.covered n low high)

  freed_none : (n : ℕ) → status h n ≡ None → freed n ≡ None
  freed_none n is = cond-false _ _ _ (ap (passes (offered_under k)) is) ∙ is

  was_freed : (n : ℕ) (x : Standing) → freed n ≡ Some x → ((passes (offered_under k) (status h n) ≡ true) × (Some (y n) ≡ Some x)) ⊎ ((passes (offered_under k) (status h n) ≡ false) × (status h n ≡ Some x))
  was_freed n x is = split (passes (offered_under k) (status h n)) (Some (y n)) (status h n) (Some x) is

  closed_other : (j : ℕ) → (j ≡ k → ⊥) → closes state k j (offer h j) ≡ offer h j
  closed_other j differs = cond-false _ _ _ (ne_eqb k j (λ is. differs (sym is)))

  closed_this : (j : ℕ) → j ≡ k → closes state k j (offer h j) ≡ Some (in_state state f)
  closed_this j is = cond-true _ _ _ (eq-eqb k j (sym is)) ∙ ap (λ i. option_map (in_state state) (offer h i)) is ∙ ap (option_map (in_state state)) made

  not_named : (n j : ℕ) → j ≡ k → open_names (closes state k j (offer h j)) n ≡ true → ⊥
  not_named n j is names =
      both_ways false refl (sym (ap (λ x. open_names x n) (closed_this j is) ∙ and_left (is_open state) (within f.first.0 f.last.0 n) closed) ∙ names)

  freed_offered : (n j : ℕ) → (Some (y n) ≡ Some (Offered j) → ⊥) → freed n ≡ Some (Offered j) → open_names (closes state k j (offer h j)) n ≡ true
  freed_offered n j differs is =
      ⊎_elim
      (λ p. absurd (differs p.1))
      (λ p. ap (λ x. open_names x n) (closed_other j (λ same. both_ways _ p.0 (ap (passes (offered_under k)) p.1 ∙ eq-eqb j k same))) ∙ sound.offered_named n j p.1)
      (was_freed n (Offered j) is)

  freed_named : (n j : ℕ) → open_names (closes state k j (offer h j)) n ≡ true → freed n ≡ Some (Offered j)
  freed_named n j names =
      ⊎_elim
      (λ same. absurd (not_named n j same names))
      (λ differs.
      let is = sound.named_offered n j (sym (ap (λ x. open_names x n) (closed_other j differs)) ∙ names) in
      cond-false _ _ _ (ap (passes (offered_under k)) is ∙ ne_eqb j k differs) ∙ is)
      (cases_eq j k)

  freed_cancelled : (n j : ℕ) → status h n ≡ Some (Cancelled j) → freed n ≡ Some (Cancelled j)
  freed_cancelled n j is = cond-false _ _ _ (ap (passes (offered_under k)) is) ∙ is

  closed_none : (j : ℕ) → offer h j ≡ None → closes state k j (offer h j) ≡ None
  closed_none j none = cond_both {A = Option Offer} (eqb k j) (option_map (in_state state) (offer h j)) (offer h j) (λ x. x ≡ None) (λ _. ap (option_map (in_state state)) none) (λ _. none)

  closed_range : (j : ℕ) (g : Offer) → closes state k j (offer h j) ≡ Some g → (1 ≤ g.first.0) × (g.first.0 ≤ g.last.0) × (g.last.0 ≤ issued h)
  closed_range j g is =
      ⊎_elim
      (λ same.
      let e : in_state state f ≡ g = let q = sym (closed_this j same) ∙ is in cc in
      subst (λ x. (1 ≤ x.first.0) × (x.first.0 ≤ x.last.0) × (x.last.0 ≤ issued h)) e (sound.offer_range k f made))
      (λ differs. sound.offer_range j g (sym (closed_other j differs) ∙ is))
      (cases_eq j k)

-- an acceptance
module _ (h : History) (o : AcceptOffer) (sound : Sound h) (may : Accepts h o) where
  abbrev terms : Offer
  terms = may.answers.terms

  abbrev to_receiver : ℕ → Standing
  to_receiver n = Held terms.to

  accepted_status : (n : ℕ) → status (call.Acceptance o ∷ h) n ≡ freed h o.offer terms sound may.answers.made Accepted refl to_receiver n
  unfolding status
  accepted_status n = ap (λ x. cond (passes (offered_under o.offer) (status h n)) (held_by_party (λ g. g.to) x) (status h n)) may.answers.made

  pub sound_acceptance : Sound (call.Acceptance o ∷ h)
  unfolding issued offer cancellation offers_made cancellations_made today origin declared
  sound_acceptance =
      let k = o.offer in
      let made = may.answers.made in
      record {
        covered = λ n low high. ap is_some (accepted_status n) ∙ freed_covered h k terms sound made Accepted refl to_receiver n low high;
        fresh = λ n past. accepted_status n ∙ freed_none h k terms sound made Accepted refl to_receiver n (sound.fresh n past);
        zero = accepted_status 0 ∙ freed_none h k terms sound made Accepted refl to_receiver 0 sound.zero;
        limit = sound.limit;
        due = sound.due;
        offered_named = λ n j is. freed_offered h k terms sound made Accepted refl to_receiver n j held_offered (sym (accepted_status n) ∙ is);
        named_offered = λ n j names. accepted_status n ∙ freed_named h k terms sound made Accepted refl to_receiver n j names;
        cancelled_named = λ n j is. ⊎_elim (λ p. absurd (held_cancelled p.1)) (λ p. sound.cancelled_named n j p.1) (was_freed h k terms sound made Accepted refl to_receiver n (Cancelled j) (sym (accepted_status n) ∙ is));
        named_cancelled = λ n j names. accepted_status n ∙ freed_cancelled h k terms sound made Accepted refl to_receiver n j (sound.named_cancelled n j names);
        no_offer_0 = closed_none h k terms sound made Accepted refl to_receiver 0 sound.no_offer_0;
        no_offer_past = λ j past. closed_none h k terms sound made Accepted refl to_receiver j (sound.no_offer_past j past);
        no_cancellation_past = sound.no_cancellation_past;
        offer_range = closed_range h k terms sound made Accepted refl to_receiver;
        within_term = λ n a is. ⊎_elim (λ p. may.within_term n (under_offer_lem k (status h n) p.0)) (λ p. sound.within_term n a p.1) (was_freed h k terms sound made Accepted refl to_receiver n (Held a) (sym (accepted_status n) ∙ is));
      }

-- a recall
module _ (h : History) (o : RecallOffer) (sound : Sound h) (may : Answers h o.offer (account_from o.account) (λ f. f.from)) where
  abbrev given_back : ℕ → Standing
  given_back n = cond (lapsed (today h) (origin h n)) Expired (Held may.terms.from)

  recalled_status : (n : ℕ) → status (call.Recall o ∷ h) n ≡ freed h o.offer may.terms sound may.made Recalled refl given_back n
  unfolding status
  recalled_status n =
      ap (λ x. cond (passes (offered_under o.offer) (status h n)) (cond (lapsed (today h) (origin h n)) (Some Expired) (held_by_party (λ g. g.from) x)) (status h n)) may.made
      ∙ ap (λ x. cond (passes (offered_under o.offer) (status h n)) x (status h n)) (either (lapsed (today h) (origin h n)))
    where
      either : (b : Bool) → cond b (Some Expired) (Some (Held may.terms.from)) ≡ Some (cond b Expired (Held may.terms.from))
      either true = refl
      either false = refl

  not_offered : (b : Bool) (a : Account) (j : ℕ) → Some (cond b Expired (Held a)) ≡ Some (Offered j) → ⊥
  not_offered true a j h = expired_offered h
  not_offered false a j h = held_offered h

  not_cancelled : (b : Bool) (a : Account) (j : ℕ) → Some (cond b Expired (Held a)) ≡ Some (Cancelled j) → ⊥
  not_cancelled true a j h = expired_cancelled h
  not_cancelled false a j h = held_cancelled h

  held_in_term : (b : Bool) (a c : Account) → Some (cond b Expired (Held a)) ≡ Some (Held c) → b ≡ false
  held_in_term true a c h = absurd (expired_held h)
  held_in_term false a c h = refl

  pub sound_recall : Sound (call.Recall o ∷ h)
  unfolding issued offer cancellation offers_made cancellations_made today origin declared
  sound_recall =
      let k = o.offer in
      let f = may.terms in
      let made = may.made in
      let late : ℕ → Bool = λ n. lapsed (today h) (origin h n) in
      record {
        covered = λ n low high. ap is_some (recalled_status n) ∙ freed_covered h k f sound made Recalled refl given_back n low high;
        fresh = λ n past. recalled_status n ∙ freed_none h k f sound made Recalled refl given_back n (sound.fresh n past);
        zero = recalled_status 0 ∙ freed_none h k f sound made Recalled refl given_back 0 sound.zero;
        limit = sound.limit;
        due = sound.due;
        offered_named = λ n j is. freed_offered h k f sound made Recalled refl given_back n j (not_offered (late n) f.from j) (sym (recalled_status n) ∙ is);
        named_offered = λ n j names. recalled_status n ∙ freed_named h k f sound made Recalled refl given_back n j names;
        cancelled_named = λ n j is. ⊎_elim (λ p. absurd (not_cancelled (late n) f.from j p.1)) (λ p. sound.cancelled_named n j p.1) (was_freed h k f sound made Recalled refl given_back n (Cancelled j) (sym (recalled_status n) ∙ is));
        named_cancelled = λ n j names. recalled_status n ∙ freed_cancelled h k f sound made Recalled refl given_back n j (sound.named_cancelled n j names);
        no_offer_0 = closed_none h k f sound made Recalled refl given_back 0 sound.no_offer_0;
        no_offer_past = λ j past. closed_none h k f sound made Recalled refl given_back j (sound.no_offer_past j past);
        no_cancellation_past = sound.no_cancellation_past;
        offer_range = closed_range h k f sound made Recalled refl given_back;
        within_term = λ n a is. ⊎_elim (λ p. held_in_term (late n) f.from a p.1) (λ p. sound.within_term n a p.1) (was_freed h k f sound made Recalled refl given_back n (Held a) (sym (recalled_status n) ∙ is));
      }

-- the opening of a day
module _ (h : History) (o : NewDay) (sound : Sound h) where
  abbrev lapses : ℕ → Bool
  lapses n = passes is_held (status h n) && lapsed o.date (origin h n)

  was_kept : (n : ℕ) (x : Standing) → status (call.DayOpening o ∷ h) n ≡ Some x → ((lapses n ≡ true) × (Some Expired ≡ Some x)) ⊎ ((lapses n ≡ false) × (status h n ≡ Some x))
  unfolding status
  was_kept n x is = split (lapses n) (Some Expired) (status h n) (Some x) is

  kept : (n : ℕ) → passes is_held (status h n) ≡ false → status (call.DayOpening o ∷ h) n ≡ status h n
  unfolding status
  kept n not_held = cond-false _ _ _ (and_left _ _ not_held)

  covered_kept : (n : ℕ) → 1 ≤ n → n ≤ issued h → is_some (status (call.DayOpening o ∷ h) n) ≡ true
  unfolding status
  covered_kept n low high = cond_both {A = Option Standing} (lapses n) (Some Expired) (status h n) (λ x. is_some x ≡ true) (λ _. refl) (λ _. sound.covered n low high)

  still_held : (n : ℕ) (a : Account) → lapses n ≡ false → status h n ≡ Some (Held a) → lapsed o.date (origin h n) ≡ false
  still_held n a not_lapsing is = sym (ap (λ x. passes is_held x && lapsed o.date (origin h n)) is) ∙ not_lapsing

  pub sound_day_opening : Sound (call.DayOpening o ∷ h)
  unfolding issued offer cancellation offers_made cancellations_made today origin declared
  sound_day_opening = record {
    covered = covered_kept;
    fresh = λ n past. kept n (ap (passes is_held) (sound.fresh n past)) ∙ sound.fresh n past;
    zero = kept 0 (ap (passes is_held) sound.zero) ∙ sound.zero;
    limit = sound.limit;
    due = sound.due;
    offered_named = λ n k is. ⊎_elim (λ p. absurd (expired_offered p.1)) (λ p. sound.offered_named n k p.1) (was_kept n (Offered k) is);
    named_offered = λ n k names. let is = sound.named_offered n k names in kept n (ap (passes is_held) is) ∙ is;
    cancelled_named = λ n k is. ⊎_elim (λ p. absurd (expired_cancelled p.1)) (λ p. sound.cancelled_named n k p.1) (was_kept n (Cancelled k) is);
    named_cancelled = λ n k names. let is = sound.named_cancelled n k names in kept n (ap (passes is_held) is) ∙ is;
    no_offer_0 = sound.no_offer_0;
    no_offer_past = sound.no_offer_past;
    no_cancellation_past = sound.no_cancellation_past;
    offer_range = sound.offer_range;
    within_term = λ n a is. ⊎_elim (λ p. absurd (expired_held p.1)) (λ p. still_held n a p.0 p.1) (was_kept n (Held a) is);
  }

pub sound_step : (c : Call) (h : History) → Sound h → Permitted c h → Sound (c ∷ h)
unfolding status issued offer cancellation offers_made cancellations_made today origin declared
sound_step (call.Account o) h sound may = record { covered = sound.covered; fresh = sound.fresh; zero = sound.zero; limit = sound.limit; due = sound.due; offered_named = sound.offered_named; named_offered = sound.named_offered; cancelled_named = sound.cancelled_named; named_cancelled = sound.named_cancelled; no_offer_0 = sound.no_offer_0; no_offer_past = sound.no_offer_past; no_cancellation_past = sound.no_cancellation_past; offer_range = sound.offer_range; within_term = sound.within_term }
sound_step (call.Device o) h sound may = record { covered = sound.covered; fresh = sound.fresh; zero = sound.zero; limit = sound.limit; due = sound.due; offered_named = sound.offered_named; named_offered = sound.named_offered; cancelled_named = sound.cancelled_named; named_cancelled = sound.named_cancelled; no_offer_0 = sound.no_offer_0; no_offer_past = sound.no_offer_past; no_cancellation_past = sound.no_cancellation_past; offer_range = sound.offer_range; within_term = sound.within_term }
sound_step (call.Declaration o) h sound may = sound_declaration h o sound may
sound_step (call.Offer o) h sound may = sound_offer h o sound may
sound_step (call.Acceptance o) h sound may = sound_acceptance h o sound may
sound_step (call.Recall o) h sound may = sound_recall h o sound may
sound_step (call.Cancellation o) h sound may = sound_cancellation h o sound may
sound_step (call.DayOpening o) h sound may = sound_day_opening h o sound
sound_step call.DayClosing h sound may = record { covered = sound.covered; fresh = sound.fresh; zero = sound.zero; limit = sound.limit; due = sound.due; offered_named = sound.offered_named; named_offered = sound.named_offered; cancelled_named = sound.cancelled_named; named_cancelled = sound.named_cancelled; no_offer_0 = sound.no_offer_0; no_offer_past = sound.no_offer_past; no_cancellation_past = sound.no_cancellation_past; offer_range = sound.offer_range; within_term = sound.within_term }
