-- Acceptances and recalls keep the accounts' totals at what they count. Assumes nothing.
use Rattle.std.proofs.Common.{◌≡◌, ℕ, ◌+◌, ◌≤◌, Bool, true, false, cond, not, ◌&&◌, List, ◌∷◌, Some, None, Option, sym, refl, ap, ◌∙◌, subst, ⊎_elim, arith}
use Rattle.std.proofs.lemmas.Bool.{both_ways, cases_Bool, eq-eqb, ne_eqb, cond-true, cond-false}
use Rattle.std.specs.Option.{option_map}
use Rattle.figures.specs.declared.accounts.Account.{Account}
use Rattle.figures.proofs.Orders.{account_order_total}
use Rattle.books.specs.Changes.{posted}
use Rattle.books.specs.Ledger.{Ledger, present}
use Rattle.books.specs.declared.changes.Change.TheVariants.{Up, Down}
use Rattle.books.proofs.Ledgers.{matches_equal, present_changed}
use Rattle.order_file.specs.declared.orders.AcceptOffer.{AcceptOffer}
use Rattle.order_file.specs.declared.orders.RecallOffer.{RecallOffer}
use Rattle.range_map.specs.Counts.{bit, how_many, passes}
use Rattle.range_map.specs.Plain.{Between, at}
use Rattle.range_map.specs.declared.entry.Entry.{Entry}
use Rattle.range_map.proofs.Cutting.{covers}
use Rattle.range_map.proofs.Sums.{how_many_split, how_many_same, how_many_none}
use Rattle.register.specs.Bookings.{acceptance_of, recall_of}
use Rattle.register.specs.Holdings.{held_by, offered_under, sizes_of, counted, under_offer, given_back}
use Rattle.register.specs.State.{State, is_account}
use Rattle.register.specs.Terms.{lapsed}
use Rattle.register.specs.declared.calls.Call.TheVariants as call
use Rattle.register.specs.declared.rows.Offer.{Offer}
use Rattle.register.specs.declared.rows.OfferState.{OfferState}
use Rattle.register.specs.declared.rows.OfferState.TheVariants.{Accepted, Recalled}
use Rattle.register.specs.declared.rows.Standing.{Standing}
use Rattle.register.specs.declared.rows.Standing.TheVariants.{Held, Offered, Cancelled, Expired}
use Rattle.reckoning.specs.Agreement.{totals_of}
use Rattle.reckoning.specs.Reckoned.{History, today, issued, origin, closes, offer, held_by_party, status, held_count}
use Rattle.reckoning.proofs.Entries.{each_at}
use Rattle.reckoning.proofs.Invariant.{Sound, Maps, made_by, offered_by, offered_numbers, Totals}
use Rattle.reckoning.proofs.MapsKept.{entry_term}
use Rattle.reckoning.proofs.MemberTotals.{absent_0, up, down, stays}
use Rattle.reckoning.proofs.SoundKept.{under_offer_lem}
use Rattle.reckoning.proofs.TotalsKept.{held_at, offered_at, held_few, offered_few, party, none_held, none_offered}
use Rattle.reckoning.proofs.Tallies.{count_few, passes_at, sizes_count, between_issued}

-- what lies under an offer is a count of numbers
module _ (h : History) (s : State) (sound : Sound h) (maps : Maps h s) where
  abbrev entries : List (Entry Standing)
  entries = s.standings.entries

  tight : Between 0 (issued h + 1) entries
  tight = between_issued (issued h) entries maps.standings_rise (λ n past. maps.standings n ∙ sound.fresh n past)

  -- the sizes of entries that pass, if passing is a matter of each number
  pub sizes_are : (t : Entry Standing → Bool) (p : ℕ → Bool) → ((n : ℕ) (x : Option (Entry Standing)) → at n entries ≡ x → passes_at t x ≡ p n) → sizes_of t entries ≡ how_many p (issued h + 1)
  sizes_are t p same = sizes_count t 0 (issued h + 1) entries tight ∙ how_many_same _ p (issued h + 1) (λ n _. same n (at n entries) refl)

  pub counted_are : (t : Entry Standing → Bool) (p : ℕ → Bool) → p 0 ≡ false → ((n : ℕ) (x : Option (Entry Standing)) → at n entries ≡ x → passes_at t x ≡ p n) → counted t entries ≡ how_many p (issued h + 1)
  counted_are t p none same = omega (arith, sizes_are t p same, count_few p (issued h) none, sound.limit)

  -- what a number's entry says of its status
  pub status_of : (n : ℕ) (x : Option (Entry Standing)) → at n entries ≡ x → option_map (λ e. e.payload) x ≡ status h n
  status_of n x is = ap (option_map (λ e. e.payload)) (sym is) ∙ maps.standings n

  abbrev pub under : ℕ → ℕ → Bool
  under k n = passes (offered_under k) (status h n)

  entry_under : (k : ℕ) (x : Option (Entry Standing)) → passes_at (under_offer k) x ≡ passes (offered_under k) (option_map (λ e. e.payload) x)
  entry_under k None = refl
  entry_under k (Some e) = refl

  pub under_count : (k : ℕ) → counted (under_offer k) entries ≡ how_many (under k) (issued h + 1)
  under_count k = counted_are (under_offer k) (under k) (ap (passes (offered_under k)) sound.zero) (λ n x is. entry_under k x ∙ ap (passes (offered_under k)) (status_of n x is))

-- an open offer's numbers are freed: each gets y, which is neither Offered nor Cancelled, and the offer is closed
module _ (h h' : History) (k : ℕ) (f : Offer) (made : offer h k ≡ Some f) (state : OfferState) (y : ℕ → Standing) (a : Account) (not_offered : (n : ℕ) → offered_by h' a (Some (y n)) ≡ false) (closed : (j : ℕ) → offer h' j ≡ closes state k j (offer h j)) where
  abbrev freed : ℕ → Option Standing
  freed n = cond (passes (offered_under k) (status h n)) (Some (y n)) (status h n)

  other_offers : (x : Option Standing) → passes (offered_under k) x ≡ false → offered_by h' a x ≡ offered_by h a x
  other_offers None t = refl
  other_offers (Some (Held b)) t = refl
  other_offers (Some (Offered j)) t = ap (made_by a) (closed j ∙ cond-false _ _ _ (ne_eqb k j (λ e. both_ways _ t (eq-eqb j k (sym e)))))
  other_offers (Some (Cancelled j)) t = refl
  other_offers (Some Expired) t = refl

  under_made : (n : ℕ) → passes (offered_under k) (status h n) ≡ true → offered_at h a n ≡ is_account a f.from
  under_made n t = ap (offered_by h a) (under_offer_lem k (status h n) t) ∙ ap (made_by a) made

  freed_under : (n : ℕ) → passes (offered_under k) (status h n) ≡ true → offered_by h' a (freed n) ≡ false
  freed_under n t = ap (offered_by h' a) (cond-true _ _ _ t) ∙ not_offered n

  freed_other : (n : ℕ) → passes (offered_under k) (status h n) ≡ false → offered_by h' a (freed n) ≡ offered_at h a n
  freed_other n t = ap (offered_by h' a) (cond-false _ _ _ t) ∙ other_offers (status h n) t

  pub freed_offered_split : is_account a f.from ≡ true → (n : ℕ) → bit (offered_at h a n) ≡ bit (offered_by h' a (freed n)) + bit (passes (offered_under k) (status h n))
  freed_offered_split this n =
      ⊎_elim
      (λ t. ap bit (under_made n t ∙ this) ∙ sym (λ i. bit (freed_under n t i) + bit (t i)))
      (λ t. sym (ap (λ x. x + bit (passes (offered_under k) (status h n))) (ap bit (freed_other n t)) ∙ omega (arith, ap bit t)))
      (cases_Bool (passes (offered_under k) (status h n)))

  pub freed_offered_same : is_account a f.from ≡ false → (n : ℕ) → offered_by h' a (freed n) ≡ offered_at h a n
  freed_offered_same other n =
      ⊎_elim (λ t. freed_under n t ∙ sym (under_made n t ∙ other)) (freed_other n) (cases_Bool (passes (offered_under k) (status h n)))

-- what is held after numbers are freed
module _ (h : History) (k : ℕ) (y : ℕ → Standing) (a : Account) (gains : ℕ → Bool) (is : (n : ℕ) → held_by a (y n) ≡ gains n) where
  under_not_held : (n : ℕ) → passes (offered_under k) (status h n) ≡ true → held_at h a n ≡ false
  under_not_held n t = ap (passes (held_by a)) (under_offer_lem k (status h n) t)

  pub freed_held_split : (n : ℕ) → bit (passes (held_by a) (cond (passes (offered_under k) (status h n)) (Some (y n)) (status h n))) ≡ bit (held_at h a n) + bit (passes (offered_under k) (status h n) && gains n)
  freed_held_split n =
      ⊎_elim
      (λ t. ap bit (ap (passes (held_by a)) (cond-true _ _ _ t) ∙ is n) ∙ sym ((λ i. bit (under_not_held n t i) + bit (t i && gains n)) ∙ omega arith))
      (λ t. ap bit (ap (passes (held_by a)) (cond-false _ _ _ t)) ∙ sym (ap (λ x. bit (held_at h a n) + bit (x && gains n)) t ∙ omega arith))
      (cases_Bool (passes (offered_under k) (status h n)))

and_yes : (x y : Bool) → y ≡ true → (x && y) ≡ x
and_yes true y h = h
and_yes false y h = refl

and_no : (x y : Bool) → y ≡ false → (x && y) ≡ false
and_no true y h = h
and_no false y h = refl

-- an acceptance
module _ (h : History) (o : AcceptOffer) (s : State) (sound : Sound h) (maps : Maps h s) (totals : Totals h s) (f : Offer) (made : offer h o.offer ≡ Some f) (known : present (is_account f.to) s.accounts.members ≡ true) where
  abbrev accepted : History
  accepted = call.Acceptance o ∷ h

  abbrev receives : ℕ → Standing
  receives n = Held f.to

  accepted_status : (n : ℕ) → status accepted n ≡ cond (passes (offered_under o.offer) (status h n)) (Some (receives n)) (status h n)
  unfolding status
  accepted_status n = ap (λ x. cond (passes (offered_under o.offer) (status h n)) (held_by_party (λ g. g.to) x) (status h n)) made

  accepted_offers : (j : ℕ) → offer accepted j ≡ closes Accepted o.offer j (offer h j)
  unfolding offer
  accepted_offers j = refl

  same_issued : issued accepted ≡ issued h
  unfolding issued
  same_issued = refl

  abbrev moved_numbers : ℕ
  moved_numbers = counted (under_offer o.offer) s.standings.entries

  receiver_gains : (a : Account) → is_account a f.to ≡ true → held_count accepted a ≡ held_count h a + moved_numbers
  unfolding held_count
  receiver_gains a this =
      ap (λ n. how_many (held_at accepted a) (n + 1)) same_issued
      ∙ how_many_split (held_at accepted a) (held_at h a) (under h s sound maps o.offer) (issued h + 1) (λ n _. ap bit (ap (passes (held_by a)) (accepted_status n)) ∙ freed_held_split h o.offer receives a (λ _. is_account a f.to) (λ _. refl) n ∙ ap (λ x. bit (held_at h a n) + bit x) (and_yes _ _ this))
      ∙ ap (λ x. how_many (held_at h a) (issued h + 1) + x) (sym (under_count h s sound maps o.offer))

  others_keep : (a : Account) → is_account a f.to ≡ false → held_count accepted a ≡ held_count h a
  unfolding held_count
  others_keep a other =
      ap (λ n. how_many (held_at accepted a) (n + 1)) same_issued
      ∙ how_many_split (held_at accepted a) (held_at h a) (λ _. false) (issued h + 1) (λ n _. ap bit (ap (passes (held_by a)) (accepted_status n)) ∙ freed_held_split h o.offer receives a (λ _. is_account a f.to) (λ _. refl) n ∙ ap (λ x. bit (held_at h a n) + bit x) (and_no _ _ other))
      ∙ omega (arith, how_many_none (issued h + 1))

  sender_offers_less : (a : Account) → is_account a f.from ≡ true → offered_numbers h a ≡ offered_numbers accepted a + moved_numbers
  unfolding offered_numbers
  sender_offers_less a this =
      how_many_split (offered_at h a) (offered_at accepted a) (under h s sound maps o.offer) (issued h + 1) (λ n _. freed_offered_split h accepted o.offer f made Accepted receives a (λ _. refl) accepted_offers this n ∙ ap (λ x. bit (offered_by accepted a x) + bit (under h s sound maps o.offer n)) (sym (accepted_status n)))
      ∙ (λ i. how_many (offered_at accepted a) (sym same_issued i + 1) + sym (under_count h s sound maps o.offer) i)

  others_offer : (a : Account) → is_account a f.from ≡ false → offered_numbers h a ≡ offered_numbers accepted a
  unfolding offered_numbers
  others_offer a other =
      sym (ap (λ n. how_many (offered_at accepted a) (n + 1)) same_issued ∙ how_many_same (offered_at accepted a) (offered_at h a) (issued h + 1) (λ n _. ap (offered_by accepted a) (accepted_status n) ∙ freed_offered_same h accepted o.offer f made Accepted receives a (λ _. refl) accepted_offers other n))

  abbrev sender_posted : Ledger Account
  sender_posted = posted (is_account f.from) (Up 0) (Down moved_numbers) s.accounts

  first_posting : (a : Account) → ((totals_of (is_account a) sender_posted).0 ≡ held_count h a) × ((totals_of (is_account a) sender_posted).1 ≡ offered_numbers accepted a)
  first_posting a =
      party a f.from (Up 0) (Down moved_numbers) s.accounts (held_count h a) (offered_numbers accepted a)
      (λ this. (
        stays _ _ _ (none_held h s totals a) (omega (arith, totals.held a, held_few h sound a)) (sym (totals.held a)),
        down _ moved_numbers _ _ (none_offered h s totals a) (omega (arith, totals.offered a, offered_few h sound a)) (totals.offered a ∙ sender_offers_less a this),
      ))
      (λ other. (totals.held a, totals.offered a ∙ others_offer a other))

  both_postings : Sound accepted → (a : Account) → ((totals_of (is_account a) (acceptance_of o.offer f s).accounts).0 ≡ held_count accepted a) × ((totals_of (is_account a) (acceptance_of o.offer f s).accounts).1 ≡ offered_numbers accepted a)
  both_postings after a =
      let first = first_posting a in
      party a f.to (Up moved_numbers) (Up 0) sender_posted (held_count accepted a) (offered_numbers accepted a)
      (λ this. (
        up _ moved_numbers _ _ (present_changed _ _ _ (is_account a) s.accounts.members ∙ ap (λ x. present (is_account x) s.accounts.members) (matches_equal account_order_total a f.to this) ∙ known) (held_few accepted after a) (receiver_gains a this ∙ ap (λ x. x + moved_numbers) (sym first.0)),
        stays _ _ _ (λ b. ap (λ t. t.1) (absent_0 (is_account a) sender_posted b)) (omega (arith, first.1, offered_few accepted after a)) (sym first.1),
      ))
      (λ other. (first.0 ∙ sym (others_keep a other), first.1))

  pub totals_acceptance : Sound accepted → Totals accepted (acceptance_of o.offer f s)
  totals_acceptance after = record { held = λ a. (both_postings after a).0; offered = λ a. (both_postings after a).1 }

-- a recall
module _ (h : History) (o : RecallOffer) (s : State) (sound : Sound h) (maps : Maps h s) (totals : Totals h s) (f : Offer) (made : offer h o.offer ≡ Some f) (date : s.date ≡ today h) (known : present (is_account f.from) s.accounts.members ≡ true) where
  abbrev recalled : History
  recalled = call.Recall o ∷ h

  abbrev late : ℕ → Bool
  late n = lapsed (today h) (origin h n)

  abbrev returns : ℕ → Standing
  returns n = cond (late n) Expired (Held f.from)

  either : (b : Bool) → cond b (Some Expired) (Some (Held f.from)) ≡ Some (cond b Expired (Held f.from))
  either true = refl
  either false = refl

  recalled_status : (n : ℕ) → status recalled n ≡ cond (passes (offered_under o.offer) (status h n)) (Some (returns n)) (status h n)
  unfolding status
  recalled_status n =
      ap (λ x. cond (passes (offered_under o.offer) (status h n)) (cond (late n) (Some Expired) (held_by_party (λ g. g.from) x)) (status h n)) made
      ∙ ap (λ x. cond (passes (offered_under o.offer) (status h n)) x (status h n)) (either (late n))

  recalled_offers : (j : ℕ) → offer recalled j ≡ closes Recalled o.offer j (offer h j)
  unfolding offer
  recalled_offers j = refl

  still_issued : issued recalled ≡ issued h
  unfolding issued
  still_issued = refl

  returned_held : (a : Account) (b : Bool) → held_by a (cond b Expired (Held f.from)) ≡ (not b && is_account a f.from)
  returned_held a true = refl
  returned_held a false = refl

  returned_not_offered : (a : Account) (b : Bool) → offered_by recalled a (Some (cond b Expired (Held f.from))) ≡ false
  returned_not_offered a true = refl
  returned_not_offered a false = refl

  abbrev back : ℕ → Bool
  back n = under h s sound maps o.offer n && not (late n)

  abbrev given : ℕ
  given = counted (given_back o.offer s.date s.origins.entries) s.standings.entries

  abbrev numbers_offered : ℕ
  numbers_offered = counted (under_offer o.offer) s.standings.entries

  given_count : given ≡ how_many back (issued h + 1)
  given_count =
      counted_are h s sound maps (given_back o.offer s.date s.origins.entries) back (ap (λ x. passes (offered_under o.offer) x && not (late 0)) sound.zero)
      (λ n x is. go n x is)
    where
      go : (n : ℕ) (x : Option (Entry Standing)) → at n s.standings.entries ≡ x → passes_at (given_back o.offer s.date s.origins.entries) x ≡ back n
      go n None is = ap (λ y. passes (offered_under o.offer) y && not (late n)) (status_of h s sound maps n None is)
      go n (Some e) is =
          let ends = subst (λ y. Rattle.std.specs.Option.MatchOption y (Unit {0}) (λ z. (z.first ≤ n) × (n ≤ z.last))) is (covers n s.standings.entries) in
          let same = each_at _ s.standings.entries maps.even n e is n ends.0 ends.1 in
          let term = ap (λ d. lapsed d (origin h n)) date in
          ap (λ b. under_offer o.offer e && not b) (sym (entry_term h s maps s.date n e same) ∙ term)
          ∙ ap (λ y. passes (offered_under o.offer) y && not (late n)) (status_of h s sound maps n (Some e) is)

  sender_regains : (a : Account) → is_account a f.from ≡ true → held_count recalled a ≡ held_count h a + given
  unfolding held_count
  sender_regains a this =
      ap (λ n. how_many (held_at recalled a) (n + 1)) still_issued
      ∙ how_many_split (held_at recalled a) (held_at h a) back (issued h + 1) (λ n _. ap bit (ap (passes (held_by a)) (recalled_status n)) ∙ freed_held_split h o.offer returns a (λ i. not (late i) && is_account a f.from) (λ i. returned_held a (late i)) n ∙ ap (λ x. bit (held_at h a n) + bit (under h s sound maps o.offer n && x)) (and_yes (not (late n)) (is_account a f.from) this))
      ∙ ap (λ x. how_many (held_at h a) (issued h + 1) + x) (sym given_count)

  rest_keep : (a : Account) → is_account a f.from ≡ false → held_count recalled a ≡ held_count h a
  unfolding held_count
  rest_keep a other =
      ap (λ n. how_many (held_at recalled a) (n + 1)) still_issued
      ∙ how_many_split (held_at recalled a) (held_at h a) (λ _. false) (issued h + 1) (λ n _. ap bit (ap (passes (held_by a)) (recalled_status n)) ∙ freed_held_split h o.offer returns a (λ i. not (late i) && is_account a f.from) (λ i. returned_held a (late i)) n ∙ ap (λ x. bit (held_at h a n) + bit x) (and_no (under h s sound maps o.offer n) _ (and_no (not (late n)) (is_account a f.from) other)))
      ∙ omega (arith, how_many_none (issued h + 1))

  sender_offers_no_more : (a : Account) → is_account a f.from ≡ true → offered_numbers h a ≡ offered_numbers recalled a + numbers_offered
  unfolding offered_numbers
  sender_offers_no_more a this =
      how_many_split (offered_at h a) (offered_at recalled a) (under h s sound maps o.offer) (issued h + 1) (λ n _. freed_offered_split h recalled o.offer f made Recalled returns a (λ i. returned_not_offered a (late i)) recalled_offers this n ∙ ap (λ x. bit (offered_by recalled a x) + bit (under h s sound maps o.offer n)) (sym (recalled_status n)))
      ∙ (λ i. how_many (offered_at recalled a) (sym still_issued i + 1) + sym (under_count h s sound maps o.offer) i)

  rest_offer : (a : Account) → is_account a f.from ≡ false → offered_numbers h a ≡ offered_numbers recalled a
  unfolding offered_numbers
  rest_offer a other =
      sym (ap (λ n. how_many (offered_at recalled a) (n + 1)) still_issued ∙ how_many_same (offered_at recalled a) (offered_at h a) (issued h + 1) (λ n _. ap (offered_by recalled a) (recalled_status n) ∙ freed_offered_same h recalled o.offer f made Recalled returns a (λ i. returned_not_offered a (late i)) recalled_offers other n))

  recall_posting : Sound recalled → (a : Account) → ((totals_of (is_account a) (recall_of o.offer f s).accounts).0 ≡ held_count recalled a) × ((totals_of (is_account a) (recall_of o.offer f s).accounts).1 ≡ offered_numbers recalled a)
  recall_posting after a =
      party a f.from (Up given) (Down numbers_offered) s.accounts (held_count recalled a) (offered_numbers recalled a)
      (λ this. (
        up _ given _ _ (ap (λ x. present (is_account x) s.accounts.members) (matches_equal account_order_total a f.from this) ∙ known) (held_few recalled after a) (sender_regains a this ∙ ap (λ x. x + given) (sym (totals.held a))),
        down _ numbers_offered _ _ (none_offered h s totals a) (omega (arith, totals.offered a, offered_few h sound a)) (totals.offered a ∙ sender_offers_no_more a this),
      ))
      (λ other. (totals.held a ∙ sym (rest_keep a other), totals.offered a ∙ rest_offer a other))

  pub totals_recall : Sound recalled → Totals recalled (recall_of o.offer f s)
  totals_recall after = record { held = λ a. (recall_posting after a).0; offered = λ a. (recall_posting after a).1 }
