-- Every booked call keeps the maps in agreement with the reckoning. Assumes nothing.
use Rattle.std.proofs.Common.{◌≡◌, ℕ, suc, ◌+◌, ◌^◌, ◌<◌, ◌≤◌, Bool, true, false, cond, ◌&&◌, ltb, leb, List, ◌∷◌, map, is_some, Some, None, Option, sym, refl, ap, ◌∙◌, subst, ⊎_elim, arith}
use Rattle.std.proofs.lemmas.Bool.{both_ways, cases_Bool, lt-ltb, le-ltb, ltb-true, ltb-false, le-leb, leb-true, and_parts, and_from, cond-true, cond-false, cond_both}
use Rattle.std.specs.Option.{option_map}
use Rattle.figures.specs.Limits.{last_certificate_number}
use Rattle.figures.specs.declared.accounts.Account.{Account}
use Rattle.order_file.specs.declared.orders.AcceptOffer.{AcceptOffer}
use Rattle.order_file.specs.declared.orders.Cancel.{Cancel}
use Rattle.order_file.specs.declared.orders.Declare.{Declare}
use Rattle.order_file.specs.declared.orders.MakeOffer.{MakeOffer}
use Rattle.order_file.specs.declared.orders.NewDay.{NewDay}
use Rattle.order_file.specs.declared.orders.RecallOffer.{RecallOffer}
use Rattle.range_map.specs.Counts.{passes}
use Rattle.range_map.specs.Placed.{taken, laid, changed}
use Rattle.range_map.specs.Plain.{within, Rising, at, payload_at, below, from, cut, hit, remade, change}
use Rattle.range_map.specs.declared.entry.Entry.{Entry}
use Rattle.range_map.proofs.Cutting.{at_remade, between_remade, between_change, covers, at_change, at_lay, between_lay}
use Rattle.range_map.proofs.Joining.{taken_is, laid_is_lay, changed_is_change}
use Rattle.register.specs.Bookings.{entry, declaration, offering, acceptance_of, recall_of, cancellation, day_opening}
use Rattle.register.specs.Checks.{wanted, issued_so_far, first_issued, last_issued}
use Rattle.register.specs.Holdings.{is_held, offered_under, under_offer, entry_lapsed, accepted, recalled, expired}
use Rattle.register.specs.State.{MapOf, State, account_from}
use Rattle.register.specs.Terms.{lapsed}
use Rattle.register.specs.declared.calls.Call.TheVariants as call
use Rattle.register.specs.declared.rows.Offer.{Offer}
use Rattle.register.specs.declared.rows.Origin.{Origin}
use Rattle.register.specs.declared.rows.Standing.{Standing}
use Rattle.register.specs.declared.rows.Standing.TheVariants.{Held, Offered, Cancelled, Expired}
use Rattle.reckoning.specs.Allowed.{HoldsAll}
use Rattle.reckoning.specs.Reckoned.{History, today, issued_by, issued, is_next, origin_of, origin, offers_made, offer, cancellations_made, held_by_party, status}
use Rattle.reckoning.proofs.Entries.{found_payload, each_at, each_from, each_both, each_remade, each_cut, each_lay, each_below}
use Rattle.reckoning.proofs.Invariant.{Even, Sound, Maps, Rows}

-- a stretch within an even one is even
abbrev EvenAt : (ℕ → Option Origin) → Entry Standing → Type 0
EvenAt o e = (n : ℕ) → e.first ≤ n → n ≤ e.last → o n ≡ o e.first

even_parts : (o : ℕ → Option Origin) (k : ℕ) (e : Entry Standing) → e.first < k → k ≤ e.last → EvenAt o e → EvenAt o (below k e) × EvenAt o (from k e)
even_parts o k e begun reach even = (
  λ n low high. even n low (omega arith),
  λ n low high. even n (omega arith) high ∙ sym (even k (omega arith) reach),
)

even_change : (o : ℕ → Option Origin) (f l : ℕ) (p : Standing) (m : List (Entry Standing)) → Even o m → Even o (change f l p m)
unfolding change
even_change o f l p m even =
    each_remade _ (EvenAt o) (λ e q. q) (cut f (cut (l + 1) m))
    (each_cut f (EvenAt o) (even_parts o f) (cut (l + 1) m) (each_cut (l + 1) (EvenAt o) (even_parts o (l + 1)) m even))

-- what a change of numbers that all have a standing leaves
module _ (o : ℕ → Option Origin) (old : ℕ → Option Standing) (f l : ℕ) (p : Standing) (m : List (Entry Standing)) (w : Rising m) (is : (n : ℕ) → payload_at n m ≡ old n) (le : f ≤ l) where
  pub changed_rises : Rising (changed f l p m)
  changed_rises = subst Rising (sym (changed_is_change f l 0 (2 ^ 62) m w le p)) (between_change f l p 0 (2 ^ 62) m w)

  pub changed_even : Even o m → Even o (changed f l p m)
  changed_even even = subst (Even o) (sym (changed_is_change f l 0 (2 ^ 62) m w le p)) (even_change o f l p m even)

  pub changed_status : ((n : ℕ) → f ≤ n → n ≤ l → is_some (old n) ≡ true) → (n : ℕ) → payload_at n (changed f l p m) ≡ cond (within f l n) (Some p) (old n)
  changed_status some n =
      ap (payload_at n) (changed_is_change f l 0 (2 ^ 62) m w le p)
      ∙ at_change f l p n 0 (2 ^ 62) m w le
      ∙ ap (λ x. cond (within f l n) (option_map (λ _. p) x) x) (is n)
      ∙ ⊎_elim
      (λ b. let ends = and_parts _ _ b in cond-true _ _ _ b ∙ replaced (old n) (some n (leb-true f n ends.0) (leb-true n l ends.1)) ∙ sym (cond-true _ _ _ b))
      (λ b. cond-false _ _ _ b ∙ sym (cond-false _ _ _ b))
      (cases_Bool (within f l n))
    where
      replaced : (x : Option Standing) → is_some x ≡ true → option_map (λ _. p) x ≡ Some p
      replaced None h = absurd (both_ways false refl h)
      replaced (Some x) h = refl

-- what a payload made anew leaves, where it depends on the entry's first number only through its origin
module _ (o : ℕ → Option Origin) (old : ℕ → Option Standing) (g : Entry Standing → Standing) (m : List (Entry Standing)) (w : Rising m) (is : (n : ℕ) → payload_at n m ≡ old n) (even : Even o m) where
  pub remade_rises : Rising (map (remade g) m)
  remade_rises = between_remade g 0 (2 ^ 62) m w

  pub remade_even : Even o (map (remade g) m)
  remade_even = each_remade g (EvenAt o) (λ e q. q) m even

  pub remade_status : (new : ℕ → Option Standing → Option Standing) → ((n : ℕ) → new n None ≡ None) → ((n : ℕ) (e : Entry Standing) → o n ≡ o e.first → new n (Some e.payload) ≡ Some (g e)) → (n : ℕ) → payload_at n (map (remade g) m) ≡ new n (old n)
  remade_status new none some n =
      ap (option_map (λ e. e.payload)) (at_remade g n m) ∙ go (at n m) refl ∙ ap (new n) (is n)
    where
      go : (x : Option (Entry Standing)) → at n m ≡ x → option_map (λ e. e.payload) (option_map (remade g) x) ≡ new n (option_map (λ e. e.payload) x)
      go None h = sym (none n)
      go (Some e) h =
          let ends = subst (λ y. Rattle.std.specs.Option.MatchOption y (Unit {0}) (λ x. (x.first ≤ n) × (n ≤ x.last))) h (covers n m) in
          sym (some n e (each_at (EvenAt o) m even n e h n ends.0 ends.1))

-- what one entry more leaves, past all others
module _ (o o' : ℕ → Option Origin) (old : ℕ → Option Standing) (bound f l : ℕ) (p : Standing) (m : List (Entry Standing)) (w : Rising m) (is : (n : ℕ) → payload_at n m ≡ old n) (le : f ≤ l) (few : l < 2 ^ 62) (free : taken f l m ≡ None) where
  laid_free : hit f l m ≡ None
  laid_free = sym (taken_is 0 (2 ^ 62) m w f l) ∙ free

  pub laid_rises : Rising (laid (entry f l p) m)
  laid_rises = subst Rising (sym (laid_is_lay 0 (2 ^ 62) m w (entry f l p))) (between_lay (entry f l p) 0 (2 ^ 62) m (omega arith) le few laid_free w)

  pub laid_status : (n : ℕ) → payload_at n (laid (entry f l p) m) ≡ cond (within f l n) (Some p) (old n)
  laid_status n = ap (payload_at n) (laid_is_lay 0 (2 ^ 62) m w (entry f l p)) ∙ at_lay f l p n m le laid_free ∙ ap (cond (within f l n) (Some p)) (is n)

  pub laid_even : ((n : ℕ) → bound < n → old n ≡ None) → ((n : ℕ) → n ≤ bound → o' n ≡ o n) → ((n : ℕ) → f ≤ n → n ≤ l → o' n ≡ o' f) → Even o m → Even o' (laid (entry f l p) m)
  laid_even none same new even =
      subst (Even o') (sym (laid_is_lay 0 (2 ^ 62) m w (entry f l p)))
      (each_lay (entry f l p) (EvenAt o') (λ n low high. new n low high) m
      (each_both (EvenAt o) (λ e. (0 ≤ e.first) × (e.first ≤ e.last) × (e.last ≤ bound)) (EvenAt o')
      (λ e q b n low high. same n (omega (arith, b)) ∙ q n low high ∙ sym (same e.first (omega (arith, b)))) m even
      (each_below 0 (2 ^ 62) bound m w (λ n past. is n ∙ none n past))))

origins_laid : (o : ℕ → Option Origin) (f l : ℕ) (p : Origin) (os : List (Entry Origin)) → Rising os → ((n : ℕ) → payload_at n os ≡ o n) → f ≤ l → l < 2 ^ 62 → taken f l os ≡ None → Rising (laid (entry f l p) os) × ((n : ℕ) → payload_at n (laid (entry f l p) os) ≡ cond (within f l n) (Some p) (o n))
origins_laid o f l p os w is le few free =
    let none = sym (taken_is 0 (2 ^ 62) os w f l) ∙ free in
    let plain = laid_is_lay 0 (2 ^ 62) os w (entry f l p) in (
      subst Rising (sym plain) (between_lay (entry f l p) 0 (2 ^ 62) os (omega arith) le few none w),
      λ n. ap (payload_at n) plain ∙ at_lay f l p n os le none ∙ ap (cond (within f l n) (Some p)) (is n),
    )

-- a declaration
module _ (h : History) (o : Declare) (s : State) (sound : Sound h) (maps : Maps h s) (rows : Rows h s) (same : wanted o s ≡ issued_by h o) (numbers : issued h + issued_by h o ≤ last_certificate_number) where
  pub so_far : issued_so_far s ≡ issued h
  so_far = omega (arith, rows.last, sound.limit)

  next_range : (n : ℕ) → within (first_issued s) (last_issued o s) n ≡ is_next h o n
  next_range n =
      let first : first_issued s ≡ suc (issued h) = omega (arith, so_far) in
      let last : last_issued o s ≡ issued h + issued_by h o = omega (arith, so_far, same) in
      λ i. leb (first i) n && leb n (last i)

  none_next : wanted o s ≡ 0 → (n : ℕ) → is_next h o n ≡ false
  none_next none n =
      ⊎_elim
      (λ b. let ends = and_parts (ltb (issued h) n) (leb n (issued h + issued_by h o)) b in absurd (omega (arith, ltb-true (issued h) n ends.0, leb-true n (issued h + issued_by h o) ends.1, same)))
      (λ b. b)
      (cases_Bool (is_next h o n))

  -- the numbers up to the last one keep their origin
  origin_kept : (n : ℕ) → n ≤ issued h → origin (call.Declaration o ∷ h) n ≡ origin h n
  unfolding origin
  origin_kept n le = cond-false _ _ _ (ap (λ b. b && leb n (issued h + issued_by h o)) (le-ltb (issued h) n le))

  origin_new : (n : ℕ) → first_issued s ≤ n → n ≤ last_issued o s → origin (call.Declaration o ∷ h) n ≡ Some (origin_of o)
  unfolding origin
  origin_new n low high =
      cond-true _ _ _ (and_from _ _ (lt-ltb (issued h) n (omega (arith, so_far))) (le-leb n (issued h + issued_by h o) (omega (arith, so_far, same))))

  abbrev StandingsKept : MapOf Standing → Type 0
  StandingsKept m = Rising m.entries × ((n : ℕ) → payload_at n m.entries ≡ status (call.Declaration o ∷ h) n) × Even (origin (call.Declaration o ∷ h)) m.entries

  abbrev OriginsKept : MapOf Origin → Type 0
  OriginsKept m = Rising m.entries × ((n : ℕ) → payload_at n m.entries ≡ origin (call.Declaration o ∷ h) n)

  status_none : wanted o s ≡ 0 → (n : ℕ) → status (call.Declaration o ∷ h) n ≡ status h n
  unfolding status
  status_none none n = cond-false _ _ _ (none_next none n)

  origin_none : wanted o s ≡ 0 → (n : ℕ) → origin (call.Declaration o ∷ h) n ≡ origin h n
  unfolding origin
  origin_none none n = cond-false _ _ _ (none_next none n)

  even_same : (a b : ℕ → Option Origin) → ((n : ℕ) → b n ≡ a n) → (m : List (Entry Standing)) → Even a m → Even b m
  even_same a b eq m even = each_from (EvenAt a) (EvenAt b) (λ e q n low high. eq n ∙ q n low high ∙ sym (eq e.first)) m even

  standings_as_found : wanted o s ≡ 0 → StandingsKept s.standings
  standings_as_found none = (
    maps.standings_rise,
    λ n. maps.standings n ∙ sym (status_none none n),
    even_same (origin h) (origin (call.Declaration o ∷ h)) (origin_none none) s.standings.entries maps.even,
  )

  laid_is_status : (n : ℕ) → cond (within (first_issued s) (last_issued o s) n) (Some (Held (account_from o.account))) (status h n) ≡ status (call.Declaration o ∷ h) n
  unfolding status
  laid_is_status n = ap (λ b. cond b (Some (Held (account_from o.account))) (status h n)) (next_range n)

  laid_is_origin : (n : ℕ) → cond (within (first_issued s) (last_issued o s) n) (Some (origin_of o)) (origin h n) ≡ origin (call.Declaration o ∷ h) n
  unfolding origin
  laid_is_origin n = ap (λ b. cond b (Some (origin_of o)) (origin h n)) (next_range n)

  module _ (some : 0 < wanted o s) where
    in_order : first_issued s ≤ last_issued o s
    in_order = omega arith

    few : last_issued o s < 2 ^ 62
    few = omega (arith, so_far, same, numbers)

    standings_laid : taken (first_issued s) (last_issued o s) s.standings.entries ≡ None → StandingsKept (record { slots = s.standings.slots; entries = laid (entry (first_issued s) (last_issued o s) (Held (account_from o.account))) s.standings.entries })
    standings_laid free =
        let p = Held (account_from o.account) in
        let o' = origin (call.Declaration o ∷ h) in
        let first : first_issued s ≤ first_issued s = omega arith in (
          laid_rises (origin h) o' (status h) (issued h) (first_issued s) (last_issued o s) p s.standings.entries maps.standings_rise maps.standings in_order few free,
          λ n. laid_status (origin h) o' (status h) (issued h) (first_issued s) (last_issued o s) p s.standings.entries maps.standings_rise maps.standings in_order few free n ∙ laid_is_status n,
          laid_even (origin h) o' (status h) (issued h) (first_issued s) (last_issued o s) p s.standings.entries maps.standings_rise maps.standings in_order few free
              sound.fresh origin_kept (λ n low high. origin_new n low high ∙ sym (origin_new (first_issued s) first in_order)) maps.even,
        )

    origins_kept : taken (first_issued s) (last_issued o s) s.origins.entries ≡ None → OriginsKept (record { slots = s.origins.slots; entries = laid (entry (first_issued s) (last_issued o s) (origin_of o)) s.origins.entries })
    origins_kept free =
        let both = origins_laid (origin h) (first_issued s) (last_issued o s) (origin_of o) s.origins.entries maps.origins_rise maps.origins in_order few free in
        (both.0, λ n. both.1 n ∙ laid_is_origin n)

  none_wanted : ltb 0 (wanted o s) ≡ false → wanted o s ≡ 0
  none_wanted b = omega (arith, ltb-false 0 (wanted o s) b)

  pub maps_declaration : (0 < wanted o s → taken (first_issued s) (last_issued o s) s.origins.entries ≡ None) → (0 < wanted o s → taken (first_issued s) (last_issued o s) s.standings.entries ≡ None) → Maps (call.Declaration o ∷ h) (declaration o s)
  maps_declaration free_origins free_standings =
      let standings = cond_both {A = MapOf Standing} (ltb 0 (wanted o s)) _ s.standings StandingsKept (λ b. let some = ltb-true 0 (wanted o s) b in standings_laid some (free_standings some)) (λ b. standings_as_found (none_wanted b)) in
      let origins = cond_both {A = MapOf Origin} (ltb 0 (wanted o s)) _ s.origins OriginsKept (λ b. let some = ltb-true 0 (wanted o s) b in origins_kept some (free_origins some)) (λ b. (maps.origins_rise, λ n. maps.origins n ∙ sym (origin_none (none_wanted b) n))) in
      record { standings_rise = standings.0; origins_rise = origins.0; standings = standings.1; origins = origins.1; even = standings.2 }

-- calls that change numbers of a range: an offer and a cancellation
module _ (h : History) (s : State) (maps : Maps h s) where
  all_some : (a : Account) (f l : ℕ) → HoldsAll h a f l → (n : ℕ) → f ≤ n → n ≤ l → is_some (status h n) ≡ true
  all_some a f l held n low high = ap is_some (held.each n low high)

  pub maps_offer : (o : MakeOffer) (a : Account) → s.offered ≡ offers_made h → HoldsAll h a o.first o.last → Maps (call.Offer o ∷ h) (offering o s)
  unfolding status origin
  maps_offer o a made held =
      let m = s.standings.entries in
      let p = Offered (s.offered + 1) in
      record {
        standings_rise = changed_rises (origin h) (status h) o.first o.last p m maps.standings_rise maps.standings held.rising;
        origins_rise = maps.origins_rise;
        standings = λ n. changed_status (origin h) (status h) o.first o.last p m maps.standings_rise maps.standings held.rising (all_some a o.first o.last held) n ∙ ap (λ k. cond (within o.first o.last n) (Some (Offered (k + 1))) (status h n)) made;
        origins = maps.origins;
        even = changed_even (origin h) (status h) o.first o.last p m maps.standings_rise maps.standings held.rising maps.even;
      }

  pub maps_cancellation : (o : Cancel) (a : Account) → s.cancelled ≡ cancellations_made h → HoldsAll h a o.first o.last → Maps (call.Cancellation o ∷ h) (cancellation o s)
  unfolding status origin
  maps_cancellation o a made held =
      let m = s.standings.entries in
      let p = Cancelled (s.cancelled + 1) in
      record {
        standings_rise = changed_rises (origin h) (status h) o.first o.last p m maps.standings_rise maps.standings held.rising;
        origins_rise = maps.origins_rise;
        standings = λ n. changed_status (origin h) (status h) o.first o.last p m maps.standings_rise maps.standings held.rising (all_some a o.first o.last held) n ∙ ap (λ k. cond (within o.first o.last n) (Some (Cancelled (k + 1))) (status h n)) made;
        origins = maps.origins;
        even = changed_even (origin h) (status h) o.first o.last p m maps.standings_rise maps.standings held.rising maps.even;
      }

  -- calls that make entries anew
  abbrev remade_maps : (h' : History) (g : Entry Standing → Standing) → Type 0
  remade_maps h' g = (n : ℕ) → payload_at n (map (remade g) s.standings.entries) ≡ status h' n

  -- an entry's term is what the reckoning says of its numbers
  pub entry_term : (date n : ℕ) (e : Entry Standing) → origin h n ≡ origin h e.first → lapsed date (origin h n) ≡ entry_lapsed date s.origins.entries e
  entry_term date n e same = ap (lapsed date) (same ∙ sym (maps.origins e.first) ∙ sym (found_payload e.first s.origins.entries maps.origins_rise))

  pub maps_acceptance : (o : AcceptOffer) (f : Offer) → offer h o.offer ≡ Some f → Maps (call.Acceptance o ∷ h) (acceptance_of o.offer f s)
  unfolding status origin
  maps_acceptance o f made =
      let m = s.standings.entries in
      let g = accepted o.offer f.to in
      record {
        standings_rise = remade_rises (origin h) (status h) g m maps.standings_rise maps.standings maps.even;
        origins_rise = maps.origins_rise;
        standings = remade_status (origin h) (status h) g m maps.standings_rise maps.standings maps.even (λ n old. cond (passes (offered_under o.offer) old) (held_by_party (λ x. x.to) (offer h o.offer)) old) (λ n. refl) (λ n e same. ap (λ x. cond (under_offer o.offer e) (held_by_party (λ y. y.to) x) (Some e.payload)) made ∙ some_cond (under_offer o.offer e) (Held f.to) e.payload);
        origins = maps.origins;
        even = remade_even (origin h) (status h) g m maps.standings_rise maps.standings maps.even;
      }
    where
      some_cond : (b : Bool) (x y : Standing) → cond b (Some x) (Some y) ≡ Some (cond b x y)
      some_cond true x y = refl
      some_cond false x y = refl

  pub maps_recall : (o : RecallOffer) (f : Offer) → s.date ≡ today h → offer h o.offer ≡ Some f → Maps (call.Recall o ∷ h) (recall_of o.offer f s)
  unfolding status origin
  maps_recall o f date made =
      let m = s.standings.entries in
      let g = recalled o.offer f.from s.date s.origins.entries in
      record {
        standings_rise = remade_rises (origin h) (status h) g m maps.standings_rise maps.standings maps.even;
        origins_rise = maps.origins_rise;
        standings = remade_status (origin h) (status h) g m maps.standings_rise maps.standings maps.even
            (λ n old. cond (passes (offered_under o.offer) old) (cond (lapsed (today h) (origin h n)) (Some Expired) (held_by_party (λ x. x.from) (offer h o.offer))) old) (λ n. refl)
            (λ n e same. (λ i. cond (under_offer o.offer e) (cond (term n e same i) (Some Expired) (held_by_party (λ x. x.from) (made i))) (Some e.payload)) ∙ some_cond (under_offer o.offer e) (entry_lapsed s.date s.origins.entries e) (Held f.from) e.payload);
        origins = maps.origins;
        even = remade_even (origin h) (status h) g m maps.standings_rise maps.standings maps.even;
      }
    where
      term : (n : ℕ) (e : Entry Standing) → origin h n ≡ origin h e.first → lapsed (today h) (origin h n) ≡ entry_lapsed s.date s.origins.entries e
      term n e same = ap (λ d. lapsed d (origin h n)) (sym date) ∙ entry_term s.date n e same

      some_cond : (b c : Bool) (x y : Standing) → cond b (cond c (Some Expired) (Some x)) (Some y) ≡ Some (cond b (cond c Expired x) y)
      some_cond true true x y = refl
      some_cond true false x y = refl
      some_cond false true x y = refl
      some_cond false false x y = refl

  pub maps_day_opening : (o : NewDay) → Maps (call.DayOpening o ∷ h) (day_opening o s)
  unfolding status origin
  maps_day_opening o =
      let m = s.standings.entries in
      let g = expired o.date s.origins.entries in
      record {
        standings_rise = remade_rises (origin h) (status h) g m maps.standings_rise maps.standings maps.even;
        origins_rise = maps.origins_rise;
        standings = remade_status (origin h) (status h) g m maps.standings_rise maps.standings maps.even
            (λ n old. cond (passes is_held old && lapsed o.date (origin h n)) (Some Expired) old) (λ n. refl)
            (λ n e same. ap (λ b. cond (is_held e.payload && b) (Some Expired) (Some e.payload)) (entry_term o.date n e same) ∙ some_cond (is_held e.payload && entry_lapsed o.date s.origins.entries e) e.payload);
        origins = maps.origins;
        even = remade_even (origin h) (status h) g m maps.standings_rise maps.standings maps.even;
      }
    where
      some_cond : (b : Bool) (y : Standing) → cond b (Some Expired) (Some y) ≡ Some (cond b Expired y)
      some_cond true y = refl
      some_cond false y = refl
