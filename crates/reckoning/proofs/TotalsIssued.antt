-- The opening of a day and a declaration keep the accounts' totals at what they count. Assumes nothing.
use Rattle.std.proofs.Common.{◌≡◌, ℕ, suc, ◌+◌, ◌-◌, ◌<◌, ◌≤◌, min, Bool, true, false, cond, ◌&&◌, ltb, leb, List, [], ◌∷◌, Some, None, Option, sym, refl, ap, ◌∙◌, subst, ⊎_elim, arith}
use Rattle.std.proofs.lemmas.Bool.{cases_Bool, ltb-true, ltb-false, leb-true, and_parts, and_left, cond-true, cond-false, cond_both}
use Rattle.std.specs.Option.{option_map}
use Rattle.figures.specs.Limits.{most_total}
use Rattle.figures.specs.declared.accounts.Account.{Account}
use Rattle.figures.proofs.Orders.{account_order_total}
use Rattle.books.specs.Changes.{posted}
use Rattle.books.specs.Ledger.{Ledger, present}
use Rattle.books.specs.declared.changes.Change.TheVariants.{Up, Down}
use Rattle.books.proofs.Ledgers.{matches_equal}
use Rattle.order_file.specs.declared.orders.Declare.{Declare}
use Rattle.order_file.specs.declared.orders.NewDay.{NewDay}
use Rattle.order_file.specs.declared.orders.OpenAccount.{OpenAccount}
use Rattle.order_file.specs.declared.orders.RegisterDevice.{RegisterDevice}
use Rattle.range_map.specs.Counts.{bit, how_many, size, passes}
use Rattle.range_map.specs.Plain.{within, at}
use Rattle.range_map.specs.declared.entry.Entry.{Entry}
use Rattle.range_map.proofs.Cutting.{covers}
use Rattle.range_map.proofs.Sums.{how_many_split, how_many_same, how_many_none, how_many_range}
use Rattle.register.specs.Bookings.{opening, registration, declaration, day_opening, day_closing}
use Rattle.register.specs.Checks.{wanted}
use Rattle.register.specs.Holdings.{held_by, is_held, sizes_of, entry_lapsed, lowered, lowered_all}
use Rattle.register.specs.State.{State, is_account, account_from, has_account}
use Rattle.register.specs.Terms.{lapsed}
use Rattle.register.specs.declared.calls.Call.TheVariants as call
use Rattle.register.specs.declared.rows.Origin.{Origin}
use Rattle.register.specs.declared.rows.Standing.{Standing}
use Rattle.register.specs.declared.rows.Standing.TheVariants.{Held, Offered, Cancelled, Expired}
use Rattle.reckoning.specs.Agreement.{totals_of}
use Rattle.reckoning.specs.Reckoned.{History, issued_by, issued, is_next, origin, offer, status, held_count}
use Rattle.reckoning.proofs.Entries.{each_at}
use Rattle.reckoning.proofs.Invariant.{Sound, Maps, made_by, offered_by, offered_numbers, Totals}
use Rattle.reckoning.proofs.MapsKept.{entry_term}
use Rattle.reckoning.proofs.MemberTotals.{totals_joined, absent_0, up, down, stays}
use Rattle.reckoning.proofs.TotalsKept.{held_at, offered_at, held_few, offered_few, party, none_offered}
use Rattle.reckoning.proofs.TotalsFreed.{sizes_are, status_of}
use Rattle.reckoning.proofs.Tallies.{count_past, passes_at}

and_yes : (x y : Bool) → y ≡ true → (x && y) ≡ x
and_yes true y h = h
and_yes false y h = refl

and_no : (x y : Bool) → y ≡ false → (x && y) ≡ false
and_no true y h = h
and_no false y h = refl

-- with the same offers, the same numbers count as offered
pub same_offers : (h h' : History) (a : Account) → ((k : ℕ) → offer h' k ≡ offer h k) → (x : Option Standing) → offered_by h' a x ≡ offered_by h a x
same_offers h h' a same None = refl
same_offers h h' a same (Some (Held b)) = refl
same_offers h h' a same (Some (Offered k)) = ap (made_by a) (same k)
same_offers h h' a same (Some (Cancelled k)) = refl
same_offers h h' a same (Some Expired) = refl

-- totals fall by the sizes of what expires
module _ (date : ℕ) (os : List (Entry Origin)) (a : Account) where
  abbrev loses : Entry Standing → Bool
  loses e = held_by a e.payload && entry_lapsed date os e

  abbrev Fell : ℕ → Ledger Account → Ledger Account → Type 0
  Fell n before after = ((totals_of (is_account a) after).0 ≡ (totals_of (is_account a) before).0 - n) × ((totals_of (is_account a) after).1 ≡ (totals_of (is_account a) before).1)

  unmoved : (l : Ledger Account) → Fell 0 l l
  unmoved l = (omega arith, refl)

  lowered_one : (x : Standing) (n : ℕ) (l : Ledger Account) → (totals_of (is_account a) l).0 ≤ most_total → (totals_of (is_account a) l).1 ≤ most_total → cond (held_by a x) n 0 ≤ (totals_of (is_account a) l).0 → Fell (cond (held_by a x) n 0) l (lowered x (min n most_total) l)
  lowered_one (Held b) n l few few' le =
      party a b (Down (min n most_total)) (Up 0) l ((totals_of (is_account a) l).0 - cond (is_account a b) n 0) (totals_of (is_account a) l).1
      (λ this.
      let all = ap (λ t. cond t n 0) this in (
        down _ (min n most_total) _ _ (λ t. ap (λ q. q.0) (absent_0 (is_account a) l t)) few (omega (arith, all)),
        stays _ _ _ (λ t. ap (λ q. q.1) (absent_0 (is_account a) l t)) few' refl,
      ))
      (λ other. let none = ap (λ t. cond t n 0) other in (omega (arith, none), refl))
  lowered_one (Offered k) n l few few' le = unmoved l
  lowered_one (Cancelled k) n l few few' le = unmoved l
  lowered_one Expired n l few few' le = unmoved l

  one_entry : (e : Entry Standing) (l : Ledger Account) → (totals_of (is_account a) l).0 ≤ most_total → (totals_of (is_account a) l).1 ≤ most_total → cond (loses e) (size e) 0 ≤ (totals_of (is_account a) l).0 → Fell (cond (loses e) (size e) 0) l (cond (entry_lapsed date os e) (lowered e.payload (min (size e) most_total) l) l)
  one_entry e l few few' le =
      ⊎_elim
      (λ t.
      let is = and_yes (held_by a e.payload) (entry_lapsed date os e) t in
      subst (λ b. Fell (cond b (size e) 0) l (cond (entry_lapsed date os e) (lowered e.payload (min (size e) most_total) l) l)) (sym is)
      (subst (Fell (cond (held_by a e.payload) (size e) 0) l) (sym (cond-true _ _ _ t)) (lowered_one e.payload (size e) l few few' (subst (λ b. cond b (size e) 0 ≤ (totals_of (is_account a) l).0) is le))))
      (λ t.
      let is = and_no (held_by a e.payload) (entry_lapsed date os e) t in
      subst (λ b. Fell (cond b (size e) 0) l (cond (entry_lapsed date os e) (lowered e.payload (min (size e) most_total) l) l)) (sym is)
      (subst (Fell 0 l) (sym (cond-false _ _ _ t)) (unmoved l)))
      (cases_Bool (entry_lapsed date os e))

  pub lowered_all_lem : (m : List (Entry Standing)) (l : Ledger Account) → (totals_of (is_account a) l).0 ≤ most_total → (totals_of (is_account a) l).1 ≤ most_total → sizes_of loses m ≤ (totals_of (is_account a) l).0 → Fell (sizes_of loses m) l (lowered_all date os m l)
  unfolding sizes_of lowered_all
  lowered_all_lem [] l few few' le = unmoved l
  lowered_all_lem (e ∷ m) l few few' le =
      let one = one_entry e l few few' (omega arith) in
      let rest = lowered_all_lem m (cond (entry_lapsed date os e) (lowered e.payload (min (size e) most_total) l) l) (omega (arith, one)) (omega (arith, one)) (omega (arith, one)) in
      (omega (arith, rest.0, one.0), rest.1 ∙ one.1)

-- the opening of a day
module _ (h : History) (o : NewDay) (s : State) (sound : Sound h) (maps : Maps h s) (totals : Totals h s) where
  abbrev opened : History
  opened = call.DayOpening o ∷ h

  abbrev late : ℕ → Bool
  late n = lapsed o.date (origin h n)

  opened_status : (n : ℕ) → status opened n ≡ cond (passes is_held (status h n) && late n) (Some Expired) (status h n)
  unfolding status
  opened_status n = refl

  same_issued : issued opened ≡ issued h
  unfolding issued
  same_issued = refl

  opened_offers : (k : ℕ) → offer opened k ≡ offer h k
  unfolding offer
  opened_offers k = refl

  held_way : (a : Account) (x : Option Standing) (b : Bool) → bit (passes (held_by a) x) ≡ bit (passes (held_by a) (cond (passes is_held x && b) (Some Expired) x)) + bit (passes (held_by a) x && b)
  held_way a None b = refl
  held_way a (Some (Held c)) true = sym (ap (λ t. 0 + bit t) (and_yes (is_account a c) true refl) ∙ omega arith)
  held_way a (Some (Held c)) false = sym (ap (λ t. bit (is_account a c) + bit t) (and_no (is_account a c) false refl) ∙ omega arith)
  held_way a (Some (Offered k)) b = refl
  held_way a (Some (Cancelled k)) b = refl
  held_way a (Some Expired) b = refl

  offered_way : (a : Account) (x : Option Standing) (b : Bool) → offered_by h a (cond (passes is_held x && b) (Some Expired) x) ≡ offered_by h a x
  offered_way a None b = refl
  offered_way a (Some (Held c)) true = refl
  offered_way a (Some (Held c)) false = refl
  offered_way a (Some (Offered k)) b = refl
  offered_way a (Some (Cancelled k)) b = refl
  offered_way a (Some Expired) b = refl

  abbrev lost : Account → ℕ → Bool
  lost a n = held_at h a n && late n

  abbrev lost_sizes : Account → ℕ
  lost_sizes a = sizes_of (loses o.date s.origins.entries a) s.standings.entries

  lost_count : (a : Account) → lost_sizes a ≡ how_many (lost a) (issued h + 1)
  lost_count a = sizes_are h s sound maps (loses o.date s.origins.entries a) (lost a) (λ n x is. go n x is)
    where
      go : (n : ℕ) (x : Option (Entry Standing)) → at n s.standings.entries ≡ x → passes_at (loses o.date s.origins.entries a) x ≡ lost a n
      go n None is = ap (λ y. passes (held_by a) y && late n) (status_of h s sound maps n None is)
      go n (Some e) is =
          let ends = subst (λ y. Rattle.std.specs.Option.MatchOption y (Unit {0}) (λ z. (z.first ≤ n) × (n ≤ z.last))) is (covers n s.standings.entries) in
          let same = each_at _ s.standings.entries maps.even n e is n ends.0 ends.1 in
          ap (λ b. held_by a e.payload && b) (sym (entry_term h s maps o.date n e same))
          ∙ ap (λ y. passes (held_by a) y && late n) (status_of h s sound maps n (Some e) is)

  held_less : (a : Account) → held_count h a ≡ held_count opened a + lost_sizes a
  unfolding held_count
  held_less a =
      how_many_split (held_at h a) (held_at opened a) (lost a) (issued h + 1) (λ n _. held_way a (status h n) (late n) ∙ ap (λ x. bit (passes (held_by a) x) + bit (lost a n)) (sym (opened_status n)))
      ∙ (λ i. how_many (held_at opened a) (sym same_issued i + 1) + sym (lost_count a) i)

  offered_kept : (a : Account) → offered_numbers opened a ≡ offered_numbers h a
  unfolding offered_numbers
  offered_kept a =
      ap (λ n. how_many (offered_at opened a) (n + 1)) same_issued
      ∙ how_many_same (offered_at opened a) (offered_at h a) (issued h + 1) (λ n _. ap (offered_by opened a) (opened_status n) ∙ same_offers h opened a opened_offers (cond (passes is_held (status h n) && late n) (Some Expired) (status h n)) ∙ offered_way a (status h n) (late n))

  opened_totals : (a : Account) → ((totals_of (is_account a) (day_opening o s).accounts).0 ≡ held_count opened a) × ((totals_of (is_account a) (day_opening o s).accounts).1 ≡ offered_numbers opened a)
  opened_totals a =
      let fell = lowered_all_lem o.date s.origins.entries a s.standings.entries s.accounts (omega (arith, totals.held a, held_few h sound a)) (omega (arith, totals.offered a, offered_few h sound a)) (omega (arith, totals.held a, held_less a)) in
      (omega (arith, fell.0, totals.held a, held_less a), fell.1 ∙ totals.offered a ∙ sym (offered_kept a))

  pub totals_day_opening : Totals opened (day_opening o s)
  totals_day_opening = record { held = λ a. (opened_totals a).0; offered = λ a. (opened_totals a).1 }

-- a declaration
module _ (h : History) (o : Declare) (s : State) (sound : Sound h) (totals : Totals h s) (known : has_account (account_from o.account) s ≡ true) (same : wanted o s ≡ issued_by h o) where
  abbrev declared_now : History
  declared_now = call.Declaration o ∷ h

  abbrev holder : Account
  holder = account_from o.account

  new_status : (n : ℕ) → status declared_now n ≡ cond (is_next h o n) (Some (Held holder)) (status h n)
  unfolding status
  new_status n = refl

  new_offers : (k : ℕ) → offer declared_now k ≡ offer h k
  unfolding offer
  new_offers k = refl

  more_issued : issued declared_now ≡ issued h + issued_by h o
  unfolding issued
  more_issued = refl

  next_fresh : (n : ℕ) → is_next h o n ≡ true → status h n ≡ None
  next_fresh n t = sound.fresh n (ltb-true (issued h) n (and_parts (ltb (issued h) n) (leb n (issued h + issued_by h o)) t).0)

  abbrev bound : ℕ
  bound = issued h + issued_by h o + 1

  held_before : (a : Account) → how_many (held_at h a) bound ≡ how_many (held_at h a) (issued h + 1)
  held_before a =
      let e : bound ≡ issued h + 1 + issued_by h o = omega arith in
      ap (how_many (held_at h a)) e ∙ count_past (held_at h a) (issued h + 1) (issued_by h o) (λ k past. ap (passes (held_by a)) (sound.fresh k (omega arith)))

  offered_before : (a : Account) → how_many (offered_at h a) bound ≡ how_many (offered_at h a) (issued h + 1)
  offered_before a =
      let e : bound ≡ issued h + 1 + issued_by h o = omega arith in
      ap (how_many (offered_at h a)) e ∙ count_past (offered_at h a) (issued h + 1) (issued_by h o) (λ k past. ap (offered_by h a) (sound.fresh k (omega arith)))

  next_held : (a : Account) (n : ℕ) → bit (held_at declared_now a n) ≡ bit (held_at h a n) + bit (is_next h o n && is_account a holder)
  next_held a n =
      ap bit (ap (passes (held_by a)) (new_status n))
      ∙ ⊎_elim
      (λ t. ap (λ b. bit (passes (held_by a) (cond b (Some (Held holder)) (status h n)))) t ∙ sym ((λ i. bit (passes (held_by a) (next_fresh n t i)) + bit (t i && is_account a holder)) ∙ omega arith))
      (λ t. ap (λ b. bit (passes (held_by a) (cond b (Some (Held holder)) (status h n)))) t ∙ sym (ap (λ b. bit (held_at h a n) + bit (b && is_account a holder)) t ∙ omega arith))
      (cases_Bool (is_next h o n))

  next_count : 0 < issued_by h o → how_many (is_next h o) bound ≡ issued_by h o
  next_count some =
      how_many_same (is_next h o) (within (issued h + 1) (issued h + issued_by h o)) bound (λ n _. let e : suc (issued h) ≡ issued h + 1 = omega arith in ap (λ k. leb k n && leb n (issued h + issued_by h o)) e)
      ∙ how_many_range (issued h + 1) (issued h + issued_by h o) bound (omega arith) (omega arith)
      ∙ omega arith

  holder_gains : (a : Account) → 0 < issued_by h o → is_account a holder ≡ true → held_count declared_now a ≡ held_count h a + issued_by h o
  unfolding held_count
  holder_gains a some this =
      ap (λ n. how_many (held_at declared_now a) (n + 1)) more_issued
      ∙ how_many_split (held_at declared_now a) (held_at h a) (is_next h o) bound (λ n _. next_held a n ∙ ap (λ b. bit (held_at h a n) + bit b) (and_yes (is_next h o n) _ this))
      ∙ (λ i. held_before a i + next_count some i)

  none_gained : (a : Account) → ((n : ℕ) → (is_next h o n && is_account a holder) ≡ false) → held_count declared_now a ≡ held_count h a
  unfolding held_count
  none_gained a none =
      ap (λ n. how_many (held_at declared_now a) (n + 1)) more_issued
      ∙ how_many_split (held_at declared_now a) (held_at h a) (λ _. false) bound (λ n _. next_held a n ∙ ap (λ b. bit (held_at h a n) + bit b) (none n))
      ∙ omega (arith, how_many_none bound, held_before a)

  offered_way_here : (a : Account) (n : ℕ) → offered_at declared_now a n ≡ offered_at h a n
  offered_way_here a n =
      ap (offered_by declared_now a) (new_status n)
      ∙ same_offers h declared_now a new_offers (cond (is_next h o n) (Some (Held holder)) (status h n))
      ∙ ⊎_elim
      (λ t. ap (λ b. offered_by h a (cond b (Some (Held holder)) (status h n))) t ∙ sym (ap (offered_by h a) (next_fresh n t)))
      (λ t. ap (λ b. offered_by h a (cond b (Some (Held holder)) (status h n))) t)
      (cases_Bool (is_next h o n))

  offers_kept : (a : Account) → offered_numbers declared_now a ≡ offered_numbers h a
  unfolding offered_numbers
  offers_kept a =
      ap (λ n. how_many (offered_at declared_now a) (n + 1)) more_issued
      ∙ how_many_same (offered_at declared_now a) (offered_at h a) bound (λ n _. offered_way_here a n)
      ∙ offered_before a

  none_next : issued_by h o ≡ 0 → (a : Account) (n : ℕ) → (is_next h o n && is_account a holder) ≡ false
  none_next none a n =
      ⊎_elim
      (λ t. let ends = and_parts (ltb (issued h) n) (leb n (issued h + issued_by h o)) t in absurd (omega (arith, ltb-true (issued h) n ends.0, leb-true n (issued h + issued_by h o) ends.1)))
      (λ t. and_left _ _ t)
      (cases_Bool (is_next h o n))

  abbrev Declared : Account → Ledger Account → Type 0
  Declared a l = ((totals_of (is_account a) l).0 ≡ held_count declared_now a) × ((totals_of (is_account a) l).1 ≡ offered_numbers declared_now a)

  issued_totals : Sound declared_now → 0 < issued_by h o → (a : Account) → Declared a (posted (is_account holder) (Up (wanted o s)) (Up 0) s.accounts)
  issued_totals after some a =
      party a holder (Up (wanted o s)) (Up 0) s.accounts (held_count declared_now a) (offered_numbers declared_now a)
      (λ this. (
        up _ (wanted o s) _ _ (ap (λ x. present (is_account x) s.accounts.members) (matches_equal account_order_total a holder this) ∙ known) (held_few declared_now after a) (holder_gains a some this ∙ (λ i. sym (totals.held a) i + sym same i)),
        stays _ _ _ (none_offered h s totals a) (omega (arith, totals.offered a, offered_few h sound a)) (offers_kept a ∙ sym (totals.offered a)),
      ))
      (λ other. (totals.held a ∙ sym (none_gained a (λ n. and_no _ _ other)), totals.offered a ∙ sym (offers_kept a)))

  none_issued : issued_by h o ≡ 0 → (a : Account) → Declared a s.accounts
  none_issued none a = (totals.held a ∙ sym (none_gained a (none_next none a)), totals.offered a ∙ sym (offers_kept a))

  declared_totals : Sound declared_now → (a : Account) → Declared a (declaration o s).accounts
  declared_totals after a =
      cond_both {A = Ledger Account} (ltb 0 (wanted o s)) (posted (is_account holder) (Up (wanted o s)) (Up 0) s.accounts) s.accounts (Declared a)
      (λ b. issued_totals after (omega (arith, ltb-true 0 (wanted o s) b, same)) a)
      (λ b. none_issued (omega (arith, ltb-false 0 (wanted o s) b, same)) a)

  pub totals_declaration : Sound declared_now → Totals declared_now (declaration o s)
  totals_declaration after = record { held = λ a. (declared_totals after a).0; offered = λ a. (declared_totals after a).1 }

-- calls that no number takes part in
module _ (h h' : History) (s s' : State) (totals : Totals h s) (account : (a : Account) → totals_of (is_account a) s'.accounts ≡ totals_of (is_account a) s.accounts) (status_same : (n : ℕ) → status h' n ≡ status h n) (issued_same : issued h' ≡ issued h) (offers_same : (k : ℕ) → offer h' k ≡ offer h k) where
  held_as_before : (a : Account) → held_count h a ≡ held_count h' a
  unfolding held_count
  held_as_before a = sym (ap (λ n. how_many (held_at h' a) (n + 1)) issued_same ∙ how_many_same (held_at h' a) (held_at h a) (issued h + 1) (λ n _. ap (passes (held_by a)) (status_same n)))

  offered_as_before : (a : Account) → offered_numbers h a ≡ offered_numbers h' a
  unfolding offered_numbers
  offered_as_before a = sym (ap (λ n. how_many (offered_at h' a) (n + 1)) issued_same ∙ how_many_same (offered_at h' a) (offered_at h a) (issued h + 1) (λ n _. ap (offered_by h' a) (status_same n) ∙ same_offers h h' a offers_same (status h n)))

  totals_same : Totals h' s'
  totals_same = record {
    held = λ a. ap (λ t. t.0) (account a) ∙ totals.held a ∙ held_as_before a;
    offered = λ a. ap (λ t. t.1) (account a) ∙ totals.offered a ∙ offered_as_before a;
  }

pub totals_opening : (h : History) (o : OpenAccount) (s : State) → Totals h s → Totals (call.Account o ∷ h) (opening o s)
unfolding status issued offer
totals_opening h o s totals = totals_same h (call.Account o ∷ h) s (opening o s) totals (λ a. totals_joined (is_account a) (account_from o.account) s.accounts) (λ n. refl) refl (λ k. refl)

pub totals_registration : (h : History) (o : RegisterDevice) (s : State) → Totals h s → Totals (call.Device o ∷ h) (registration o s)
unfolding status issued offer
totals_registration h o s totals = totals_same h (call.Device o ∷ h) s (registration o s) totals (λ a. refl) (λ n. refl) refl (λ k. refl)

pub totals_day_closing : (h : History) (s : State) → Totals h s → Totals (call.DayClosing ∷ h) (day_closing s)
unfolding status issued offer
totals_day_closing h s totals = totals_same h (call.DayClosing ∷ h) s (day_closing s) totals (λ a. refl) (λ n. refl) refl (λ k. refl)
