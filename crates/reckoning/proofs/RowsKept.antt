-- Every booked call keeps the day, the records and the members in agreement with the reckoning. Assumes nothing.
use Rattle.std.proofs.Common.{◌≡◌, ℕ, zero, suc, ◌+◌, ◌-◌, ◌<◌, ◌≤◌, Bool, ltb, List, [], ◌∷◌, ◌++◌, map, length, set, Some, sym, refl, ap, ◌∙◌, ⊎_elim, arith}
use Rattle.std.proofs.lemmas.List.{map_push}
use Rattle.std.proofs.lemmas.Bool.{cases_eq, eq-eqb, ne_eqb, ltb-false, cond-true, cond-false, cond_both}
use Rattle.std.specs.Option.{option_map}
use Rattle.figures.specs.declared.accounts.Account.{Account}
use Rattle.books.specs.Changes.{moved, posted}
use Rattle.books.specs.Ledger.{Ledger, newcomer}
use Rattle.books.specs.declared.changes.Change.{Change}
use Rattle.books.specs.declared.changes.Change.TheVariants.{Up, Down}
use Rattle.books.proofs.Ledgers.{keys_changed}
use Rattle.order_file.specs.declared.orders.AcceptOffer.{AcceptOffer}
use Rattle.order_file.specs.declared.orders.Cancel.{Cancel}
use Rattle.order_file.specs.declared.orders.Declare.{Declare}
use Rattle.order_file.specs.declared.orders.MakeOffer.{MakeOffer}
use Rattle.order_file.specs.declared.orders.NewDay.{NewDay}
use Rattle.order_file.specs.declared.orders.OpenAccount.{OpenAccount}
use Rattle.order_file.specs.declared.orders.RecallOffer.{RecallOffer}
use Rattle.order_file.specs.declared.orders.RegisterDevice.{RegisterDevice}
use Rattle.range_map.specs.Map.{nth}
use Rattle.range_map.specs.declared.entry.Entry.{Entry}
use Rattle.register.specs.Bookings.{opening, registration, declaration, cancellation_of, offer_of, offering, in_state, acceptance_of, recall_of, day_opening, day_closing}
use Rattle.register.specs.Bookings as book
use Rattle.register.specs.Checks.{wanted, issued_so_far, last_issued}
use Rattle.register.specs.Holdings.{entry_lapsed, lowered, lowered_all}
use Rattle.register.specs.State.{State, is_account, account_from}
use Rattle.register.specs.declared.calls.Call.TheVariants as call
use Rattle.register.specs.declared.rows.Offer.{Offer}
use Rattle.register.specs.declared.rows.OfferState.{OfferState}
use Rattle.register.specs.declared.rows.OfferState.TheVariants.{Accepted, Recalled}
use Rattle.register.specs.declared.rows.Origin.{Origin}
use Rattle.register.specs.declared.rows.Standing.{Standing}
use Rattle.register.specs.declared.rows.Standing.TheVariants.{Held, Offered, Cancelled, Expired}
use Rattle.reckoning.specs.Reckoned.{History, today, accounts_opened, devices_registered, issued_by, issued, offers_made, closes, offer, cancellations_made, cancellation, day_open}
use Rattle.reckoning.proofs.Invariant.{Rows}

module _ {X : Type 0} where
  pub nth_set_same : (xs : List X) (i : ℕ) (x : X) → i < length xs → nth i (set xs i x) ≡ Some x
  nth_set_same [] i x h = absurd (omega arith)
  nth_set_same (y ∷ xs) zero x h = refl
  nth_set_same (y ∷ xs) (suc i) x h = nth_set_same xs i x (omega arith)

  pub nth_set_other : (xs : List X) (i j : ℕ) (x : X) → (i ≡ j → ⊥) → nth i (set xs j x) ≡ nth i xs
  nth_set_other [] i zero x h = refl
  nth_set_other [] i (suc j) x h = refl
  nth_set_other (y ∷ xs) zero zero x h = absurd (h refl)
  nth_set_other (y ∷ xs) (suc i) zero x h = refl
  nth_set_other (y ∷ xs) zero (suc j) x h = refl
  nth_set_other (y ∷ xs) (suc i) (suc j) x h = nth_set_other xs i j x (λ e. h (ap suc e))

abbrev keys_of : {P : Type 0} → Ledger P → List P
keys_of l = map (λ m. m.key) l.members

keys_posted : {P : Type 0} (is : P → Bool) (f s : Change) (l : Ledger P) → keys_of (posted is f s l) ≡ keys_of l
keys_posted is f s l = keys_changed is (moved f) (moved s) l.members

keys_lowered : (x : Standing) (n : ℕ) (l : Ledger Account) → keys_of (lowered x n l) ≡ keys_of l
keys_lowered (Held a) n l = keys_posted (is_account a) (Down n) (Up 0) l
keys_lowered (Offered k) n l = refl
keys_lowered (Cancelled k) n l = refl
keys_lowered Expired n l = refl

keys_lowered_all : (date : ℕ) (os : List (Entry Origin)) (m : List (Entry Standing)) (l : Ledger Account) → keys_of (lowered_all date os m l) ≡ keys_of l
unfolding lowered_all
keys_lowered_all date os [] l = refl
keys_lowered_all date os (e ∷ m) l =
    keys_lowered_all date os m _
    ∙ cond_both {A = Ledger Account} (entry_lapsed date os e) _ l (λ x. keys_of x ≡ keys_of l) (λ _. keys_lowered e.payload _ l) (λ _. refl)

module _ (h : History) (s : State) (rows : Rows h s) where
  pub rows_opening : (o : OpenAccount) → Rows (call.Account o ∷ h) (opening o s)
  unfolding today issued offers_made cancellations_made offer cancellation accounts_opened devices_registered day_open
  rows_opening o = record {
    phase = rows.phase;
    date = rows.date;
    last = rows.last;
    offers_on_record = rows.offers_on_record;
    cancellations_on_record = rows.cancellations_on_record;
    offers = rows.offers;
    cancellations = rows.cancellations;
    account_keys = map_push (λ m. m.key) s.accounts.members (newcomer (account_from o.account)) ∙ ap (λ ks. ks ++ (account_from o.account ∷ [])) rows.account_keys;
    device_keys = rows.device_keys;
  }

  pub rows_registration : (o : RegisterDevice) → Rows (call.Device o ∷ h) (registration o s)
  unfolding today issued offers_made cancellations_made offer cancellation accounts_opened devices_registered day_open
  rows_registration o = record {
    phase = rows.phase;
    date = rows.date;
    last = rows.last;
    offers_on_record = rows.offers_on_record;
    cancellations_on_record = rows.cancellations_on_record;
    offers = rows.offers;
    cancellations = rows.cancellations;
    account_keys = rows.account_keys;
    device_keys = map_push (λ m. m.key) s.devices.members (newcomer o.device) ∙ ap (λ ks. ks ++ (o.device ∷ [])) rows.device_keys;
  }

  pub rows_declaration : (o : Declare) → issued_so_far s ≡ issued h → wanted o s ≡ issued_by h o → Rows (call.Declaration o ∷ h) (declaration o s)
  unfolding today issued offers_made cancellations_made offer cancellation accounts_opened devices_registered day_open
  rows_declaration o so_far same = record {
    phase = rows.phase;
    date = rows.date;
    last = cond_both {A = ℕ} (ltb 0 (wanted o s)) (last_issued o s) s.last (λ x. x ≡ issued h + issued_by h o) (λ _. omega (arith, so_far, same)) (λ b. omega (arith, ltb-false 0 (wanted o s) b, rows.last, same));
    offers_on_record = rows.offers_on_record;
    cancellations_on_record = rows.cancellations_on_record;
    offers = rows.offers;
    cancellations = rows.cancellations;
    account_keys = cond_both {A = Ledger Account} (ltb 0 (wanted o s)) _ s.accounts (λ l. keys_of l ≡ accounts_opened h) (λ _. keys_posted _ (Up (wanted o s)) (Up 0) s.accounts ∙ rows.account_keys) (λ _. rows.account_keys);
    device_keys = keys_changed _ _ _ s.devices.members ∙ rows.device_keys;
  }

  pub rows_offer : (o : MakeOffer) → s.offered < length s.offers → Rows (call.Offer o ∷ h) (offering o s)
  unfolding today issued offers_made cancellations_made offer cancellation accounts_opened devices_registered day_open
  rows_offer o within = record {
    phase = rows.phase;
    date = rows.date;
    last = rows.last;
    offers_on_record = ap (λ n. n + 1) rows.offers_on_record;
    cancellations_on_record = rows.cancellations_on_record;
    offers = λ k low high.
        ⊎_elim
        (λ is. let at : k - 1 ≡ s.offered = omega (arith, rows.offers_on_record) in ap (λ i. nth i (set s.offers s.offered (offer_of o))) at ∙ nth_set_same s.offers s.offered (offer_of o) within ∙ sym (cond-true _ _ _ (eq-eqb k (offers_made h + 1) is)))
        (λ differs. nth_set_other s.offers (k - 1) s.offered (offer_of o) (λ e. differs (omega (arith, rows.offers_on_record))) ∙ rows.offers k low (omega (arith, differs)) ∙ sym (cond-false _ _ _ (ne_eqb k (offers_made h + 1) differs)))
        (cases_eq k (offers_made h + 1));
    cancellations = rows.cancellations;
    account_keys = keys_changed _ _ _ s.accounts.members ∙ rows.account_keys;
    device_keys = rows.device_keys;
  }

  -- the record of an offer that is closed
  closed_row : (state : OfferState) (k : ℕ) (f : Offer) → 1 ≤ k → k ≤ length s.offers → offer h k ≡ Some f → (j : ℕ) → 1 ≤ j → j ≤ offers_made h → nth (j - 1) (set s.offers (k - 1) (in_state state f)) ≡ closes state k j (offer h j)
  closed_row state k f one within made j low high =
      ⊎_elim
      (λ is. ap (λ i. nth (i - 1) (set s.offers (k - 1) (in_state state f))) is ∙ nth_set_same s.offers (k - 1) (in_state state f) (omega arith) ∙ ap (option_map (in_state state)) (sym made) ∙ ap (λ i. option_map (in_state state) (offer h i)) (sym is) ∙ sym (cond-true _ _ _ (eq-eqb k j (sym is))))
      (λ differs. nth_set_other s.offers (j - 1) (k - 1) (in_state state f) (λ e. differs (omega arith)) ∙ rows.offers j low high ∙ sym (cond-false _ _ _ (ne_eqb k j (λ e. differs (sym e)))))
      (cases_eq j k)

  pub rows_acceptance : (o : AcceptOffer) (f : Offer) → 1 ≤ o.offer → o.offer ≤ length s.offers → offer h o.offer ≡ Some f → Rows (call.Acceptance o ∷ h) (acceptance_of o.offer f s)
  unfolding today issued offers_made cancellations_made offer cancellation accounts_opened devices_registered day_open
  rows_acceptance o f one within made = record {
    phase = rows.phase;
    date = rows.date;
    last = rows.last;
    offers_on_record = rows.offers_on_record;
    cancellations_on_record = rows.cancellations_on_record;
    offers = closed_row Accepted o.offer f one within made;
    cancellations = rows.cancellations;
    account_keys = keys_changed _ _ _ _ ∙ keys_changed _ _ _ s.accounts.members ∙ rows.account_keys;
    device_keys = rows.device_keys;
  }

  pub rows_recall : (o : RecallOffer) (f : Offer) → 1 ≤ o.offer → o.offer ≤ length s.offers → offer h o.offer ≡ Some f → Rows (call.Recall o ∷ h) (recall_of o.offer f s)
  unfolding today issued offers_made cancellations_made offer cancellation accounts_opened devices_registered day_open
  rows_recall o f one within made = record {
    phase = rows.phase;
    date = rows.date;
    last = rows.last;
    offers_on_record = rows.offers_on_record;
    cancellations_on_record = rows.cancellations_on_record;
    offers = closed_row Recalled o.offer f one within made;
    cancellations = rows.cancellations;
    account_keys = keys_changed _ _ _ s.accounts.members ∙ rows.account_keys;
    device_keys = rows.device_keys;
  }

  pub rows_cancellation : (o : Cancel) → s.cancelled < length s.cancellations → Rows (call.Cancellation o ∷ h) (book.cancellation o s)
  unfolding today issued offers_made cancellations_made offer cancellation accounts_opened devices_registered day_open
  rows_cancellation o within = record {
    phase = rows.phase;
    date = rows.date;
    last = rows.last;
    offers_on_record = rows.offers_on_record;
    cancellations_on_record = ap (λ n. n + 1) rows.cancellations_on_record;
    offers = rows.offers;
    cancellations = λ k low high.
        ⊎_elim
        (λ is. let at : k - 1 ≡ s.cancelled = omega (arith, rows.cancellations_on_record) in ap (λ i. nth i (set s.cancellations s.cancelled (cancellation_of s.date o))) at ∙ nth_set_same s.cancellations s.cancelled (cancellation_of s.date o) within ∙ ap (λ d. Some (cancellation_of d o)) rows.date ∙ sym (cond-true _ _ _ (eq-eqb k (cancellations_made h + 1) is)))
        (λ differs. nth_set_other s.cancellations (k - 1) s.cancelled (cancellation_of s.date o) (λ e. differs (omega (arith, rows.cancellations_on_record))) ∙ rows.cancellations k low (omega (arith, differs)) ∙ sym (cond-false _ _ _ (ne_eqb k (cancellations_made h + 1) differs)))
        (cases_eq k (cancellations_made h + 1));
    account_keys = keys_changed _ _ _ s.accounts.members ∙ rows.account_keys;
    device_keys = rows.device_keys;
  }

  pub rows_day_opening : (o : NewDay) → Rows (call.DayOpening o ∷ h) (day_opening o s)
  unfolding today issued offers_made cancellations_made offer cancellation accounts_opened devices_registered day_open
  rows_day_opening o = record {
    phase = refl;
    date = refl;
    last = rows.last;
    offers_on_record = rows.offers_on_record;
    cancellations_on_record = rows.cancellations_on_record;
    offers = rows.offers;
    cancellations = rows.cancellations;
    account_keys = keys_lowered_all o.date s.origins.entries s.standings.entries s.accounts ∙ rows.account_keys;
    device_keys = rows.device_keys;
  }

  pub rows_day_closing : Rows (call.DayClosing ∷ h) (day_closing s)
  unfolding today issued offers_made cancellations_made offer cancellation accounts_opened devices_registered day_open
  rows_day_closing = record {
    phase = refl;
    date = rows.date;
    last = rows.last;
    offers_on_record = rows.offers_on_record;
    cancellations_on_record = rows.cancellations_on_record;
    offers = rows.offers;
    cancellations = rows.cancellations;
    account_keys = rows.account_keys;
    device_keys = rows.device_keys;
  }
