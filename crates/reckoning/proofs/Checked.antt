-- What the checks of a call, all passed, say of the reckoning. Assumes nothing.
use Rattle.std.proofs.Common.{◌≡◌, ℕ, ◌-◌, ◌<◌, ◌≤◌, Bool, true, false, cond, not, ◌&&◌, ◌||◌, ltb, leb, List, [], ◌∷◌, map, length, is_some, Some, None, Option, sym, refl, ap, ◌∙◌, subst, arith}
use Rattle.std.proofs.lemmas.Bool.{both_ways, cases_Bool, cases_eq, cases_lt, ltb-true, ltb-false, leb-true, leb-false, eq-eqb, ne_eqb, not-true, and_parts, and_from, cond-true, cond-false, cond_both}
use Rattle.std.specs.Option.{option_map}
use Rattle.figures.specs.Gs1.{gs1}
use Rattle.figures.specs.Limits.{last_certificate_number, last_working_day, most_energy}
use Rattle.figures.specs.declared.accounts.Account.{Account}
use Rattle.figures.proofs.Orders.{account_order_total}
use Rattle.books.specs.Ledger.{Member, present}
use Rattle.books.proofs.Ledgers.{matches_equal}
use Rattle.order_file.specs.Checks.{operand, lawful_account, bad_declare, bad_offer, bad_cancel}
use Rattle.order_file.specs.Operands.{numbers_lawful, days_lawful, energy_lawful}
use Rattle.order_file.specs.declared.orders.AcceptOffer.{AcceptOffer}
use Rattle.order_file.specs.declared.orders.Cancel.{Cancel}
use Rattle.order_file.specs.declared.orders.Declare.{Declare}
use Rattle.order_file.specs.declared.orders.MakeOffer.{MakeOffer}
use Rattle.order_file.specs.declared.orders.NewDay.{NewDay}
use Rattle.order_file.specs.declared.orders.OpenAccount.{OpenAccount}
use Rattle.order_file.specs.declared.orders.RecallOffer.{RecallOffer}
use Rattle.order_file.specs.declared.orders.RegisterDevice.{RegisterDevice}
use Rattle.range_map.specs.Counts.{passes}
use Rattle.range_map.specs.Map.{nth}
use Rattle.range_map.specs.Placed.{taken}
use Rattle.range_map.specs.Plain.{at}
use Rattle.range_map.specs.declared.entry.Entry.{Entry}
use Rattle.range_map.proofs.Cutting.{covers}
use Rattle.register.specs.Checks.{bad_at, account_known, opening_checks, registration_checks, declaration_checks, wanted, first_issued, last_issued, meets, if_issuing, holds, offer_checks, offer_numbered, offer_known, by_party, still_open_check, offer_open, in_term, acceptance_checks, recall_checks, cancellation_checks, day_opening_checks}
use Rattle.register.specs.Faults.{unless, first_fault}
use Rattle.register.specs.Holdings.{held_by, offered_under, unheld, under_offer, first_overdue}
use Rattle.register.specs.State.{State, is_account, is_device, account_from, has_account, has_device, room}
use Rattle.register.specs.Terms.{lapsed, valid_until}
use Rattle.register.specs.declared.faults.Fault.{Fault}
use Rattle.register.specs.declared.faults.Fault.TheVariants.{Operand, Book, Map, DateNotLater, NotYetProduced, PastTerm, NumbersExhausted, Full, NotHeld, OfferedToItself, WrongParty}
use Rattle.range_map.specs.declared.fault.MapFault.TheVariants as range
use Rattle.books.specs.declared.faults.BookFault.TheVariants.{Present, Absent}
use Rattle.figures.specs.declared.names.BookName.TheVariants.{Accounts, Devices}
use Rattle.figures.specs.declared.names.Table.TheVariants as table
use Rattle.register.specs.declared.rows.Offer.{Offer}
use Rattle.register.specs.declared.rows.OfferState.{OfferState}
use Rattle.register.specs.declared.rows.OfferState.TheVariants.{Open, Accepted, Recalled}
use Rattle.register.specs.declared.rows.Standing.{Standing}
use Rattle.register.specs.declared.rows.Standing.TheVariants.{Held, Offered, Cancelled, Expired}
use Rattle.reckoning.specs.Allowed.{any, opened, registered, HoldsAll, Declares, Offers, Answers, Cancels}
use Rattle.reckoning.specs.Reckoned.{History, today, origin, status}
use Rattle.reckoning.proofs.Entries.{unheld_none, none_overdue, each_at}
use Rattle.reckoning.proofs.EnergiesKept.{wanted_is}
use Rattle.reckoning.proofs.Invariant.{Sound, Maps, Rows, Energies}
use Rattle.reckoning.proofs.MapsKept.{entry_term}
use Rattle.reckoning.proofs.SoundKept.{none_some}

-- checks that all pass, read by place
abbrev pub AllPassed : List (Option Fault) → Type 0
AllPassed [] = Unit {0}
AllPassed (x ∷ rest) = (x ≡ None) × AllPassed rest

pub all_passed : (checks : List (Option Fault)) → first_fault checks ≡ None → AllPassed checks
all_passed [] h = tt
all_passed (None ∷ rest) h = (refl, all_passed rest h)
all_passed (Some f ∷ rest) h = absurd (none_some (sym h))

test_passed : (b : Bool) (f : Fault) → unless b f ≡ None → b ≡ true
test_passed true f h = refl
test_passed false f h = absurd (none_some (sym h))

nothing_met : {X : Type 0} (g : X → Fault) (o : Option X) → option_map g o ≡ None → o ≡ None
nothing_met g None h = refl
nothing_met g (Some x) h = absurd (none_some (sym h))

bad_none : (x : Option ℕ) → bad_at x ≡ None → x ≡ None
bad_none x h = nothing_met (λ d. Operand (record { distance = d })) x h

account_there : (a : Account) (s : State) → account_known a s ≡ None → has_account a s ≡ true
account_there a s h = test_passed (has_account a s) (Book (Absent Accounts)) h

lawful_operand : (b : Bool) (d : ℕ) (rest : Option ℕ) → operand b d rest ≡ None → (b ≡ true) × (rest ≡ None)
lawful_operand true d rest h = (refl, h)
lawful_operand false d rest h = absurd (none_some (sym h))

-- a member is one of those that joined
present_any : {P : Type 0} (is : P → Bool) (ms : List (Member P)) → present is ms ≡ any is (map (λ m. m.key) ms)
present_any is [] = refl
present_any is (m ∷ ms) = way (is m.key) (present_any is ms)
  where
    way : (b : Bool) → present is ms ≡ any is (map (λ x. x.key) ms) → cond b true (present is ms) ≡ (b || any is (map (λ x. x.key) ms))
    way true h = refl
    way false h = h

pub account_known_lem : (h : History) (s : State) → Rows h s → (a : Account) → has_account a s ≡ opened h a
account_known_lem h s rows a = present_any (is_account a) s.accounts.members ∙ ap (any (is_account a)) rows.account_keys

pub device_known_lem : (h : History) (s : State) → Rows h s → (d : ℕ) → has_device d s ≡ registered h d
device_known_lem h s rows d = present_any (is_device d) s.devices.members ∙ ap (any (is_device d)) rows.device_keys

held_is : (a : Account) (x : Option Standing) → passes (held_by a) x ≡ true → x ≡ Some (Held a)
held_is a None h = absurd (both_ways false refl h)
held_is a (Some (Held b)) h = ap (λ y. Some (Held y)) (sym (matches_equal account_order_total a b h))
held_is a (Some (Offered k)) h = absurd (both_ways false refl h)
held_is a (Some (Cancelled k)) h = absurd (both_ways false refl h)
held_is a (Some Expired) h = absurd (both_ways false refl h)

-- numbers that the walk found held
holds_all : (h : History) (s : State) → Maps h s → (a : Account) (f l : ℕ) → numbers_lawful f l ≡ true → holds a f l s ≡ None → HoldsAll h a f l
holds_all h s maps a f l lawful held =
    let low = and_parts (leb 1 f) (leb f l && leb l last_certificate_number) lawful in
    let high = and_parts (leb f l) (leb l last_certificate_number) low.1 in
    let walked = unheld_none a f l s.standings.entries maps.standings_rise (nothing_met NotHeld (unheld a f l s.standings.entries) held) in
    record {
      from_one = leb-true 1 f low.0;
      rising = leb-true f l high.0;
      each = λ n le ge. held_is a (status h n) (ap (passes (held_by a)) (sym (maps.standings n)) ∙ walked n le ge);
    }

free_row : {X : Type 0} (made : ℕ) (rows : List X) (b : Bool) → b ≡ ltb made (room rows) → b ≡ true → made < length rows
free_row made rows b is t = omega (arith, ltb-true made (room rows) (sym is ∙ t))

-- a declaration
pub record DeclaresOn (h : History) (o : Declare) (s : State) : Type 0 where
  pub permitted : Declares h o
  pub device : has_device o.device s ≡ true
  pub account : has_account (account_from o.account) s ≡ true
  pub origins_free : 0 < wanted o s → taken (first_issued s) (last_issued o s) s.origins.entries ≡ None
  pub standings_free : 0 < wanted o s → taken (first_issued s) (last_issued o s) s.standings.entries ≡ None

if_some : (o : Declare) (s : State) (check : Option Fault) → if_issuing o s check ≡ None → 0 < wanted o s → check ≡ None
if_some o s check h some = sym (cond-true _ _ _ (Rattle.std.proofs.lemmas.Bool.lt-ltb 0 (wanted o s) some)) ∙ h

pub declaration_passed : (h : History) (o : Declare) (s : State) → Sound h → Maps h s → Rows h s → Energies h s → first_fault (declaration_checks o s) ≡ None → DeclaresOn h o s
declaration_passed h o s sound maps rows energies none =
    let all = all_passed (declaration_checks o s) none in
    let operands = bad_none (bad_declare o) all.0 in
    let device_operand = lawful_operand (gs1 o.device) 1 _ operands in
    let account_operand = lawful_operand (lawful_account o.account) 9 _ device_operand.1 in
    let days = lawful_operand (days_lawful o.first_day o.last_day) 19 _ account_operand.1 in
    let energy = lawful_operand (energy_lawful o.energy) 23 _ days.1 in
    let day_ends = and_parts (leb o.first_day o.last_day) (leb o.last_day last_working_day) days.0 in
    let energy_ends = and_parts (leb 1 o.energy) (leb o.energy most_energy) energy.0 in
    let device = test_passed (has_device o.device s) (Book (Absent Devices)) all.1.0 in
    let account = account_there (account_from o.account) s all.1.1.0 in
    let produced = ltb-true o.last_day s.date (test_passed (ltb o.last_day s.date) (NotYetProduced o.last_day) all.1.1.1.0) in
    let term = leb-true s.date (valid_until o.last_day) (test_passed (leb s.date (valid_until o.last_day)) (PastTerm (valid_until o.last_day) 0) all.1.1.1.1.0) in
    let limit = leb-true (last_issued o s) last_certificate_number (test_passed (leb (last_issued o s) last_certificate_number) (NumbersExhausted (wanted o s)) all.1.1.1.1.1.1.1.1.0) in
    record {
      permitted = record {
        device = sym (device_known_lem h s rows o.device) ∙ device;
        account = sym (account_known_lem h s rows (account_from o.account)) ∙ account;
        days = leb-true _ _ day_ends.0;
        produced = omega (arith, produced, rows.date);
        within_term = omega (arith, term, rows.date);
        some_energy = leb-true _ _ energy_ends.0;
        energy = leb-true _ _ energy_ends.1;
        numbers = omega (arith, limit, wanted_is h o s energies, rows.last, sound.limit);
      };
      device = device;
      account = account;
      origins_free = λ some. nothing_met (λ p. Map (range.Taken p)) (taken (first_issued s) (last_issued o s) s.origins.entries) (if_some o s (meets (first_issued s) (last_issued o s) s.origins) all.1.1.1.1.1.1.0 some);
      standings_free = λ some. nothing_met (λ p. Map (range.Taken p)) (taken (first_issued s) (last_issued o s) s.standings.entries) (if_some o s (meets (first_issued s) (last_issued o s) s.standings) all.1.1.1.1.1.1.1.0 some);
    }

-- an offer
pub record OffersOn (h : History) (o : MakeOffer) (s : State) : Type 0 where
  pub permitted : Offers h o
  pub sender : has_account (account_from o.from) s ≡ true
  pub slot : s.offered < length s.offers

pub offer_passed : (h : History) (o : MakeOffer) (s : State) → Maps h s → Rows h s → first_fault (offer_checks o s) ≡ None → OffersOn h o s
offer_passed h o s maps rows none =
    let all = all_passed (offer_checks o s) none in
    let operands = bad_none (bad_offer o) all.0 in
    let from = lawful_operand (lawful_account o.from) 1 _ operands in
    let to = lawful_operand (lawful_account o.to) 7 _ from.1 in
    let numbers = lawful_operand (numbers_lawful o.first o.last) 21 _ to.1 in
    let sender = account_there (account_from o.from) s all.1.1.0 in
    let receiver = account_there (account_from o.to) s all.1.1.1.0 in
    record {
      permitted = record {
        apart = not-true _ (test_passed (not (is_account (account_from o.from) (account_from o.to))) (OfferedToItself (account_from o.from)) all.1.0);
        from = sym (account_known_lem h s rows (account_from o.from)) ∙ sender;
        to = sym (account_known_lem h s rows (account_from o.to)) ∙ receiver;
        held = holds_all h s maps (account_from o.from) o.first o.last numbers.0 all.1.1.1.1.0;
      };
      sender = sender;
      slot = free_row s.offered s.offers _ refl (test_passed (ltb s.offered (room s.offers)) (Full table.Offers) all.1.1.1.1.1.0);
    }

-- a cancellation
pub record CancelsOn (h : History) (o : Cancel) (s : State) : Type 0 where
  pub permitted : Cancels h o
  pub slot : s.cancelled < length s.cancellations

pub cancellation_passed : (h : History) (o : Cancel) (s : State) → Maps h s → Rows h s → first_fault (cancellation_checks o s) ≡ None → CancelsOn h o s
cancellation_passed h o s maps rows none =
    let all = all_passed (cancellation_checks o s) none in
    let operands = bad_none (bad_cancel o) all.0 in
    let account = lawful_operand (lawful_account o.account) 1 _ operands in
    let numbers = lawful_operand (numbers_lawful o.first o.last) 15 _ account.1 in
    record {
      permitted = record {
        account = sym (account_known_lem h s rows (account_from o.account)) ∙ account_there (account_from o.account) s all.1.0;
        held = holds_all h s maps (account_from o.account) o.first o.last numbers.0 all.1.1.0;
      };
      slot = free_row s.cancelled s.cancellations _ refl (test_passed (ltb s.cancelled (room s.cancellations)) (Full table.Cancellations) all.1.1.1.0);
    }

-- the offer that is answered
pub record AnswersOn (h : History) (k : ℕ) (a : Account) (party : Offer → Account) (s : State) : Type 0 where
  pub answers : Answers h k a party
  pub found : offer_numbered k s ≡ Some answers.terms
  pub one : 1 ≤ k
  pub within : k ≤ length s.offers
  pub account : has_account (party answers.terms) s ≡ true

known_offer : (k : ℕ) (x : Option Offer) → offer_known k x ≡ None → (f : Offer) × (x ≡ Some f)
known_offer k None h = absurd (none_some (sym h))
known_offer k (Some f) h = (f, refl)

open_state : (x : OfferState) → still_open_check x ≡ None → x ≡ Open
open_state Open h = refl
open_state Accepted h = absurd (none_some (sym h))
open_state Recalled h = absurd (none_some (sym h))

answer_passed : (h : History) (k : ℕ) (a : Account) (party : Offer → Account) (s : State) → Rows h s → has_account a s ≡ true → offer_known k (offer_numbered k s) ≡ None → by_party a party (offer_numbered k s) ≡ None → offer_open (offer_numbered k s) ≡ None → AnswersOn h k a party s
answer_passed h k a party s rows known made by still =
    let offer_at = known_offer k (offer_numbered k s) made in
    let f = offer_at.0 in
    let numbered = offer_at.1 in
    let test = leb 1 k && (leb k s.offered && leb k (room s.offers)) in
    let in_table : test ≡ true = in_range test (nth (k - 1) s.offers) f numbered in
    let ends = and_parts (leb 1 k) (leb k s.offered && leb k (room s.offers)) in_table in
    let more = and_parts (leb k s.offered) (leb k (room s.offers)) ends.1 in
    let low = leb-true 1 k ends.0 in
    let high = leb-true k s.offered more.0 in
    let fits = leb-true k (room s.offers) more.1 in
    let row = sym (cond-true test (nth (k - 1) s.offers) None in_table) ∙ numbered in
    let is_party = matches_equal account_order_total a (party f) (test_passed (is_account a (party f)) (WrongParty a) (sym (ap (by_party a party) numbered) ∙ by)) in
    record {
      answers = record {
        terms = f;
        made = sym (rows.offers k low (omega (arith, high, rows.offers_on_record))) ∙ row;
        still_open = open_state f.state (sym (ap offer_open numbered) ∙ still);
        by = sym is_party;
        known = sym (account_known_lem h s rows a) ∙ known;
      };
      found = numbered;
      one = low;
      within = omega (arith, fits);
      account = ap (λ x. has_account x s) (sym is_party) ∙ known;
    }
  where
    in_range : (b : Bool) (x : Option Offer) (f : Offer) → cond b x None ≡ Some f → b ≡ true
    in_range true x f is = refl
    in_range false x f is = absurd (none_some is)

pub recall_passed : (h : History) (o : RecallOffer) (s : State) → Rows h s → first_fault (recall_checks o s) ≡ None → AnswersOn h o.offer (account_from o.account) (λ f. f.from) s
recall_passed h o s rows none =
    let all = all_passed (recall_checks o s) none in
    answer_passed h o.offer (account_from o.account) (λ f. f.from) s rows (account_there (account_from o.account) s all.1.0) all.1.1.0 all.1.1.1.0 all.1.1.1.1.0

entry_of : (k : ℕ) (x : Option (Entry Standing)) → option_map (λ e. e.payload) x ≡ Some (Offered k) → (e : Entry Standing) × (x ≡ Some e) × (under_offer k e ≡ true)
entry_of k None h = absurd (none_some h)
entry_of k (Some e) h = (e, refl, ap (passes (offered_under k)) h ∙ eq-eqb k k refl)

-- no number under the offer is past its term
offer_in_term : (h : History) (s : State) (k : ℕ) → Maps h s → Rows h s → in_term k s ≡ None → (n : ℕ) → status h n ≡ Some (Offered k) → lapsed (today h) (origin h n) ≡ false
offer_in_term h s k maps rows none n is =
    let m = s.standings.entries in
    let os = s.origins.entries in
    let each = none_overdue k s.date os m (nothing_met (λ p. PastTerm p.0 p.1) (first_overdue k s.date os m) none) in
    let at_n = entry_of k (at n m) (maps.standings n ∙ is) in
    let e = at_n.0 in
    let ends = subst (λ y. Rattle.std.specs.Option.MatchOption y (Unit {0}) (λ z. (z.first ≤ n) × (n ≤ z.last))) at_n.1 (covers n m) in
    let same = each_at _ m maps.even n e at_n.1 n ends.0 ends.1 in
    ap (λ d. lapsed d (origin h n)) (sym rows.date) ∙ entry_term h s maps s.date n e same ∙ ap is_some (each_at _ m each n e at_n.1 at_n.2)

pub record AcceptsOn (h : History) (o : AcceptOffer) (s : State) : Type 0 where
  pub on : AnswersOn h o.offer (account_from o.account) (λ f. f.to) s
  pub within_term : (n : ℕ) → status h n ≡ Some (Offered o.offer) → lapsed (today h) (origin h n) ≡ false

pub acceptance_passed : (h : History) (o : AcceptOffer) (s : State) → Maps h s → Rows h s → first_fault (acceptance_checks o s) ≡ None → AcceptsOn h o s
acceptance_passed h o s maps rows none =
    let all = all_passed (acceptance_checks o s) none in
    record {
      on = answer_passed h o.offer (account_from o.account) (λ f. f.to) s rows (account_there (account_from o.account) s all.1.0) all.1.1.0 all.1.1.1.0 all.1.1.1.1.0;
      within_term = offer_in_term h s o.offer maps rows all.1.1.1.1.1.0;
    }

-- the others
pub opening_passed : (h : History) (o : OpenAccount) (s : State) → Rows h s → first_fault (opening_checks o s) ≡ None → opened h (account_from o.account) ≡ false
opening_passed h o s rows none =
    let all = all_passed (opening_checks o s) none in
    sym (account_known_lem h s rows (account_from o.account)) ∙ not-true _ (test_passed (not (has_account (account_from o.account) s)) (Book (Present Accounts)) all.1.0)

pub registration_passed : (h : History) (o : RegisterDevice) (s : State) → Rows h s → first_fault (registration_checks o s) ≡ None → registered h o.device ≡ false
registration_passed h o s rows none =
    let all = all_passed (registration_checks o s) none in
    sym (device_known_lem h s rows o.device) ∙ not-true _ (test_passed (not (has_device o.device s)) (Book (Present Devices)) all.1.0)

pub day_opening_passed : (h : History) (o : NewDay) (s : State) → Rows h s → first_fault (day_opening_checks o s) ≡ None → (today h < o.date) × (o.date ≤ last_working_day)
day_opening_passed h o s rows none =
    let all = all_passed (day_opening_checks o s) none in
    let both = and_parts (ltb s.date o.date) (leb o.date last_working_day) (test_passed (ltb s.date o.date && leb o.date last_working_day) (DateNotLater o.date) all.0) in
    (omega (arith, ltb-true s.date o.date both.0, rows.date), leb-true o.date last_working_day both.1)
