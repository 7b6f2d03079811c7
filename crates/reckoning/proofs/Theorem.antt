-- The theorem: from a new register, whatever calls are made, the tables agree with what is reckoned from the booked ones.
-- Assumes nothing.
use Rattle.std.proofs.Common.{◌≡◌, ℕ, zero, suc, ◌+◌, ◌<◌, ◌≤◌, Bool, true, false, cond, ◌&&◌, List, [], ◌∷◌, map, Some, None, Option, unwrap_or, sym, refl, ap, ◌∙◌, subst, ⊎_elim, arith}
use Rattle.std.proofs.lemmas.Bool.{both_ways, cases_Bool, cases_eq, cases_lt, and_left}
use Rattle.figures.specs.declared.accounts.Account.{Account}
use Rattle.books.specs.Ledger.{totals}
use Rattle.range_map.specs.Counts.{bit, sum_below, how_many}
use Rattle.range_map.specs.Plain.{within, Rising, at, payload_at}
use Rattle.range_map.proofs.Sums.{sum_none, sum_same, sum_add, how_many_same, how_many_none, how_many_range}
use Rattle.register.specs.Bookings.{of_offer, acceptance_of, recall_of}
use Rattle.register.specs.Runs.{booking_of, in_turn, fault_of, settled, step, is_booked, run, history_from, New}
use Rattle.register.specs.State.{State, is_account, is_device, range_size}
use Rattle.register.specs.declared.calls.Call.{Call}
use Rattle.register.specs.declared.calls.Call.TheVariants as call
use Rattle.register.specs.declared.faults.Fault.{Fault}
use Rattle.register.specs.declared.rows.Offer.{Offer}
use Rattle.register.specs.declared.rows.Standing.{Standing}
use Rattle.register.specs.declared.rows.Standing.TheVariants.{Held, Offered, Cancelled, Expired}
use Rattle.reckoning.specs.Agreement.{Agrees}
use Rattle.reckoning.specs.Allowed.{Accepts, Permitted, Lawful}
use Rattle.reckoning.specs.Reckoned.{History, today, accounts_opened, devices_registered, declared, issued, origin, offers_made, offer, cancellations_made, cancellation, status, held_count, is_open, open_names, open_size, offered_count, day_open}
use Rattle.reckoning.proofs.Checked.{declaration_passed, offer_passed, cancellation_passed, recall_passed, acceptance_passed, opening_passed, registration_passed, day_opening_passed}
use Rattle.reckoning.proofs.EnergiesKept.{wanted_is, energies_registration, energies_declaration}
use Rattle.reckoning.proofs.Entries.{found_payload}
use Rattle.reckoning.proofs.Invariant.{Sound, Maps, Rows, made_by, offered_by, offered_numbers, Totals, Energies, Matches}
use Rattle.reckoning.proofs.MapsKept.{so_far, maps_declaration, maps_offer, maps_cancellation, maps_acceptance, maps_recall, maps_day_opening}
use Rattle.reckoning.proofs.RowsKept.{rows_opening, rows_registration, rows_declaration, rows_offer, rows_acceptance, rows_recall, rows_cancellation, rows_day_opening, rows_day_closing}
use Rattle.reckoning.proofs.SoundKept.{none_some, sound_none, sound_step}
use Rattle.reckoning.proofs.TotalsFreed.{totals_acceptance, totals_recall}
use Rattle.reckoning.proofs.TotalsIssued.{totals_opening, totals_registration, totals_declaration, totals_day_opening, totals_day_closing}
use Rattle.reckoning.proofs.TotalsKept.{totals_offer, totals_cancellation}

-- how many numbers the open offers name is how many numbers stand offered under them
single : (g : ℕ → ℕ) (i n : ℕ) → i < n → ((j : ℕ) → (j ≡ i → ⊥) → g j ≡ 0) → sum_below g n ≡ g i
unfolding sum_below
single g i zero lt none = absurd (omega arith)
single g i (suc n) lt none =
    ⊎_elim
    (λ is. let rest = sum_same g (λ _. 0) n (λ j below. none j (λ e. omega (arith, is, e))) ∙ sum_none n in ap (λ x. g x + sum_below g n) is ∙ omega (arith, rest))
    (λ differs. omega (arith, none n differs, single g i n (omega (arith, differs)) none))
    (cases_eq n i)

swap : (g : ℕ → ℕ → ℕ) (k n : ℕ) → sum_below (λ j. sum_below (λ i. g j i) n) k ≡ sum_below (λ i. sum_below (λ j. g j i) k) n
unfolding sum_below
swap g zero n = sym (sum_none n)
swap g (suc k) n = ap (λ x. sum_below (λ i. g k i) n + x) (swap g k n) ∙ sym (sum_add (λ i. g k i) (λ i. sum_below (λ j. g j i) k) n)

module _ (h : History) (sound : Sound h) (a : Account) where
  abbrev names : ℕ → ℕ → Bool
  names j n = open_names (offer h (j + 1)) n && made_by a (offer h (j + 1))

  size_of : (x : Option Offer) → ((f : Offer) → x ≡ Some f → (1 ≤ f.first.0) × (f.first.0 ≤ f.last.0) × (f.last.0 ≤ issued h)) → open_size a x ≡ how_many (λ n. open_names x n && made_by a x) (issued h + 1)
  size_of None range = sym (how_many_none (issued h + 1))
  size_of (Some f) range =
      let ends = range f refl in
      way (is_open f.state) (is_account a f.from) f.first.0 f.last.0 ends.1 ends.2
    where
      way : (b c : Bool) (p q : ℕ) → p ≤ q → q ≤ issued h → cond (b && c) (range_size p q) 0 ≡ how_many (λ n. (b && within p q n) && c) (issued h + 1)
      way false c p q le ge = sym (how_many_none (issued h + 1))
      way true false p q le ge = sym (how_many_same _ (λ _. false) (issued h + 1) (λ n _. no_more (within p q n)) ∙ how_many_none (issued h + 1))
        where
          no_more : (b : Bool) → (b && false) ≡ false
          no_more true = refl
          no_more false = refl
      way true true p q le ge = sym (how_many_same _ (within p q) (issued h + 1) (λ n _. yes_more (within p q n)) ∙ how_many_range p q (issued h + 1) le (omega arith))
        where
          yes_more : (b : Bool) → (b && true) ≡ b
          yes_more true = refl
          yes_more false = refl

  unnamed : (n : ℕ) → ((j : ℕ) → open_names (offer h (j + 1)) n ≡ true → ⊥) → sum_below (λ j. bit (names j n)) (offers_made h) ≡ 0
  unnamed n none =
      sum_same (λ j. bit (names j n)) (λ _. 0) (offers_made h) (λ j _. ap bit (and_left _ _ (⊎_elim (λ t. absurd (none j t)) (λ t. t) (cases_Bool (open_names (offer h (j + 1)) n)))))
      ∙ sum_none (offers_made h)

  -- at most one open offer names a number, and then the number stands offered under it
  named_once : (n : ℕ) (x : Option Standing) → status h n ≡ x → sum_below (λ j. bit (names j n)) (offers_made h) ≡ bit (offered_by h a x)
  named_once n None is = unnamed n (λ j e. none_some (sym is ∙ sound.named_offered n (j + 1) e))
  named_once n (Some (Held b)) is = unnamed n (λ j e. Rattle.reckoning.proofs.SoundKept.held_offered (sym is ∙ sound.named_offered n (j + 1) e))
  named_once n (Some (Offered zero)) is = absurd (both_ways false refl (sym (ap (λ x. open_names x n) sound.no_offer_0) ∙ sound.offered_named n 0 is))
  named_once n (Some (Offered (suc k))) is =
      let e : k + 1 ≡ suc k = omega arith in
      let named = sound.offered_named n (suc k) is in
      let made : k < offers_made h = ⊎_elim (λ lt. lt) (λ ge. absurd (both_ways false refl (sym (ap (λ x. open_names x n) (sound.no_offer_past (suc k) (omega arith))) ∙ named))) (cases_lt k (offers_made h)) in
      single (λ j. bit (names j n)) k (offers_made h) made (λ j differs. ap bit (and_left _ _ (other n j k differs is)))
      ∙ ap (λ i. bit (open_names (offer h i) n && made_by a (offer h i))) e
      ∙ ap (λ b. bit (b && made_by a (offer h (suc k)))) named
    where
      other : (n j k : ℕ) → (j ≡ k → ⊥) → status h n ≡ Some (Offered (suc k)) → open_names (offer h (j + 1)) n ≡ false
      other n j k differs is =
          ⊎_elim
          (λ t. let both = sym (sound.named_offered n (j + 1) t) ∙ is in let same : j + 1 ≡ suc k = cc in absurd (differs (omega arith)))
          (λ t. t)
          (cases_Bool (open_names (offer h (j + 1)) n))
  named_once n (Some (Cancelled k)) is = unnamed n (λ j e. Rattle.reckoning.proofs.SoundKept.offered_cancelled (sym (sound.named_offered n (j + 1) e) ∙ is))
  named_once n (Some Expired) is = unnamed n (λ j e. Rattle.reckoning.proofs.SoundKept.expired_offered (sym is ∙ sound.named_offered n (j + 1) e))

  pub offered_counts : offered_count h a ≡ offered_numbers h a
  unfolding offered_count offered_numbers
  offered_counts =
      sum_same (λ j. open_size a (offer h (j + 1))) (λ j. how_many (names j) (issued h + 1)) (offers_made h) (λ j _. size_of (offer h (j + 1)) (λ f is. sound.offer_range (j + 1) f is))
      ∙ swap (λ j n. bit (names j n)) (offers_made h) (issued h + 1)
      ∙ sum_same (λ n. sum_below (λ j. bit (names j n)) (offers_made h)) (λ n. bit (offered_by h a (status h n))) (issued h + 1) (λ n _. named_once n (status h n) refl)

-- what holds after every call
pub record Holds (h : History) (s : State) : Type 0 where
  pub sound : Sound h
  pub matches : Matches h s
  pub lawful : Lawful h

-- each call that is booked keeps it
module _ (h : History) (s : State) (sound : Sound h) (m : Matches h s) where
  abbrev maps : Maps h s
  maps = m.maps

  abbrev rows : Rows h s
  rows = m.rows

  pub booked : (c : Call) → fault_of c s ≡ None → Permitted c h × Matches (c ∷ h) (booking_of c s)
  booked (call.Account o) none = (
    opening_passed h o s rows none,
    record { maps = maps_same; rows = rows_opening h s rows o; totals = totals_opening h o s m.totals; energies = energies_same },
  )
    where
      maps_same : Maps (call.Account o ∷ h) (booking_of (call.Account o) s)
      maps_same = unfold status origin in record { standings_rise = maps.standings_rise; origins_rise = maps.origins_rise; standings = maps.standings; origins = maps.origins; even = maps.even }

      energies_same : Energies (call.Account o ∷ h) (booking_of (call.Account o) s)
      energies_same = unfold declared in record { remainder = m.energies.remainder; certificates = m.energies.certificates }
  booked (call.Device o) none = (
    registration_passed h o s rows none,
    record { maps = maps_same; rows = rows_registration h s rows o; totals = totals_registration h o s m.totals; energies = energies_registration h o s m.energies },
  )
    where
      maps_same : Maps (call.Device o ∷ h) (booking_of (call.Device o) s)
      maps_same = unfold status origin in record { standings_rise = maps.standings_rise; origins_rise = maps.origins_rise; standings = maps.standings; origins = maps.origins; even = maps.even }
  booked (call.Declaration o) none =
      let on = declaration_passed h o s sound maps rows m.energies none in
      let same = wanted_is h o s m.energies in
      let numbers = on.permitted.numbers in
      let after = sound_step (call.Declaration o) h sound on.permitted in (
        on.permitted,
        record {
          maps = maps_declaration h o s sound maps rows same numbers on.origins_free on.standings_free;
          rows = rows_declaration h s rows o (so_far h o s sound maps rows same numbers) same;
          totals = totals_declaration h o s sound m.totals on.account same after;
          energies = energies_declaration h o s sound m.energies on.device numbers;
        },
      )
  booked (call.Offer o) none =
      let on = offer_passed h o s maps rows none in
      let after = sound_step (call.Offer o) h sound on.permitted in (
        on.permitted,
        record {
          maps = maps_offer h s maps o _ rows.offers_on_record on.permitted.held;
          rows = rows_offer h s rows o on.slot;
          totals = totals_offer h o s sound m.totals on.permitted on.sender after;
          energies = energies_same;
        },
      )
    where
      energies_same : Energies (call.Offer o ∷ h) (booking_of (call.Offer o) s)
      energies_same = unfold declared in record { remainder = m.energies.remainder; certificates = m.energies.certificates }
  booked (call.Acceptance o) none =
      let passed = acceptance_passed h o s maps rows none in
      let on = passed.on in
      let f = on.answers.terms in
      let made = on.answers.made in
      let may : Accepts h o = record { answers = on.answers; within_term = passed.within_term } in
      let after = sound_step (call.Acceptance o) h sound may in
      let is = ap (λ x. of_offer (acceptance_of o.offer) x s) on.found in (
        may,
        subst (Matches (call.Acceptance o ∷ h)) (sym is) (record {
          maps = maps_acceptance h s maps o f made;
          rows = rows_acceptance h s rows o f on.one on.within made;
          totals = totals_acceptance h o s sound maps m.totals f made on.account after;
          energies = energies_same f;
        }),
      )
    where
      energies_same : (f : Offer) → Energies (call.Acceptance o ∷ h) (acceptance_of o.offer f s)
      energies_same f = unfold declared in record { remainder = m.energies.remainder; certificates = m.energies.certificates }
  booked (call.Recall o) none =
      let on = recall_passed h o s rows none in
      let f = on.answers.terms in
      let made = on.answers.made in
      let after = sound_step (call.Recall o) h sound on.answers in
      let is = ap (λ x. of_offer (recall_of o.offer) x s) on.found in (
        on.answers,
        subst (Matches (call.Recall o ∷ h)) (sym is) (record {
          maps = maps_recall h s maps o f rows.date made;
          rows = rows_recall h s rows o f on.one on.within made;
          totals = totals_recall h o s sound maps m.totals f made rows.date on.account after;
          energies = energies_same f;
        }),
      )
    where
      energies_same : (f : Offer) → Energies (call.Recall o ∷ h) (recall_of o.offer f s)
      energies_same f = unfold declared in record { remainder = m.energies.remainder; certificates = m.energies.certificates }
  booked (call.Cancellation o) none =
      let on = cancellation_passed h o s maps rows none in (
        on.permitted,
        record {
          maps = maps_cancellation h s maps o _ rows.cancellations_on_record on.permitted.held;
          rows = rows_cancellation h s rows o on.slot;
          totals = totals_cancellation h o s sound m.totals on.permitted;
          energies = energies_same;
        },
      )
    where
      energies_same : Energies (call.Cancellation o ∷ h) (booking_of (call.Cancellation o) s)
      energies_same = unfold declared in record { remainder = m.energies.remainder; certificates = m.energies.certificates }
  booked (call.DayOpening o) none = (
    day_opening_passed h o s rows none,
    record {
      maps = maps_day_opening h s maps o;
      rows = rows_day_opening h s rows o;
      totals = totals_day_opening h o s sound maps m.totals;
      energies = energies_same;
    },
  )
    where
      energies_same : Energies (call.DayOpening o ∷ h) (booking_of (call.DayOpening o) s)
      energies_same = unfold declared in record { remainder = m.energies.remainder; certificates = m.energies.certificates }
  booked call.DayClosing none = (
    tt,
    record { maps = maps_same; rows = rows_day_closing h s rows; totals = totals_day_closing h s m.totals; energies = energies_same },
  )
    where
      maps_same : Maps (call.DayClosing ∷ h) (booking_of call.DayClosing s)
      maps_same = unfold status origin in record { standings_rise = maps.standings_rise; origins_rise = maps.origins_rise; standings = maps.standings; origins = maps.origins; even = maps.even }

      energies_same : Energies (call.DayClosing ∷ h) (booking_of call.DayClosing s)
      energies_same = unfold declared in record { remainder = m.energies.remainder; certificates = m.energies.certificates }

-- one call: booked, refused or out of turn
settle : (c : Call) (h : History) (s : State) → Holds h s → (b : Bool) → in_turn c s.opened ≡ b → (x : Option Fault) → fault_of c s ≡ x → Holds (cond (b && settled x true false) (c ∷ h) h) (cond b (settled x (booking_of c s) s) s)
settle c h s holds false turn x is = holds
settle c h s holds true turn (Some f) is = holds
settle c h s holds true turn None is =
    let after = booked h s holds.sound holds.matches c is in
    record {
      sound = sound_step c h holds.sound after.0;
      matches = after.1;
      lawful = (ap (in_turn c) (sym holds.matches.rows.phase) ∙ turn, after.0, holds.lawful);
    }

pub one_call : (c : Call) (h : History) (s : State) → Holds h s → Holds (cond (is_booked c s) (c ∷ h) h) (step c s)
one_call c h s holds = settle c h s holds (in_turn c s.opened) refl (fault_of c s) refl

pub all_calls : (cs : List Call) (s : State) (h : History) → Holds h s → Holds (history_from cs s h) (run cs s)
unfolding run history_from
all_calls [] s h holds = holds
all_calls (c ∷ cs) s h holds = all_calls cs (step c s) (cond (is_booked c s) (c ∷ h) h) (one_call c h s holds)

-- a new register and the empty history
pub new_holds : (s : State) → New s → Holds [] s
unfolding today issued offers_made cancellations_made offer cancellation accounts_opened devices_registered day_open status origin declared held_count offered_numbers at
new_holds s new = record {
  sound = sound_none;
  matches = record {
    maps = record {
      standings_rise = subst Rising (sym new.no_standings) tt;
      origins_rise = subst Rising (sym new.no_origins) tt;
      standings = λ n. ap (payload_at n) new.no_standings;
      origins = λ n. ap (payload_at n) new.no_origins;
      even = subst (Rattle.reckoning.proofs.Invariant.Even (origin [])) (sym new.no_standings) tt;
    };
    rows = record {
      phase = new.closed;
      date = new.date;
      last = new.last;
      offers_on_record = new.offered;
      cancellations_on_record = new.cancelled;
      offers = λ k low high. absurd (omega arith);
      cancellations = λ k low high. absurd (omega arith);
      account_keys = ap (map (λ m. m.key)) new.no_accounts;
      device_keys = ap (map (λ m. m.key)) new.no_devices;
    };
    totals = record {
      held = λ a. ap (λ ms. (unwrap_or (totals (is_account a) ms) (0, 0)).0) new.no_accounts ∙ sym (how_many_none 1);
      offered = λ a. ap (λ ms. (unwrap_or (totals (is_account a) ms) (0, 0)).1) new.no_accounts ∙ sym (how_many_none 1);
    };
    energies = record {
      remainder = λ d. ap (λ ms. (unwrap_or (totals (is_device d) ms) (0, 0)).0) new.no_devices;
      certificates = λ d. ap (λ ms. (unwrap_or (totals (is_device d) ms) (0, 0)).1) new.no_devices;
    };
  };
  lawful = tt;
}

-- what holds, in the words of the claim
pub agrees : (h : History) (s : State) → Holds h s → Agrees h s
agrees h s holds =
    let sound = holds.sound in
    let m = holds.matches in
    record {
      standing = λ n. found_payload n s.standings.entries m.maps.standings_rise ∙ m.maps.standings n;
      origins = λ n. found_payload n s.origins.entries m.maps.origins_rise ∙ m.maps.origins n;
      one_of_four = sound.covered;
      no_more = sound.fresh;
      not_zero = sound.zero;
      offered_named = sound.offered_named;
      named_offered = sound.named_offered;
      one_offer = λ n j k p q. let e = sym (sound.named_offered n j p) ∙ sound.named_offered n k q in cc;
      cancelled_named = sound.cancelled_named;
      named_cancelled = sound.named_cancelled;
      one_cancellation = λ n j k p q. let e = sym (sound.named_cancelled n j p) ∙ sound.named_cancelled n k q in cc;
      held_total = m.totals.held;
      offered_total = λ a. m.totals.offered a ∙ sym (offered_counts h sound a);
      within_term = sound.within_term;
      energy = λ d. omega (arith, m.energies.certificates d, m.energies.remainder d);
      remainder = λ d. omega (arith, m.energies.remainder d);
      accounts = m.rows.account_keys;
      devices = m.rows.device_keys;
      phase = m.rows.phase;
      date = m.rows.date;
      last = m.rows.last;
      offers_on_record = m.rows.offers_on_record;
      cancellations_on_record = m.rows.cancellations_on_record;
      offers = m.rows.offers;
      cancellations = m.rows.cancellations;
      lawful = holds.lawful;
    }

pub every_run_agrees : (cs : List Call) (s : State) → New s → Agrees (history_from cs s []) (run cs s)
every_run_agrees cs s new = agrees _ _ (all_calls cs s [] (new_holds s new))
