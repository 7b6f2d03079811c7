-- The steps of a loop that looks for the first overdue entry under an offer. Assumes nothing.
use Rattle.std.proofs.Common.{◌≡◌, ℕ, ◌+◌, ◌<◌, ◌≤◌, Bool, true, false, cond, List, length, get_or, drop, Some, None, Option, refl, ap, ◌∙◌}
use Rattle.std.proofs.lemmas.List.{at_drop_more, at_drop_all}
use Rattle.range_map.specs.Placed.{payload_found}
use Rattle.range_map.specs.declared.entry.Entry.{Entry}
use Rattle.register.specs.Answers.{overdue_under}
use Rattle.register.specs.Holdings.{first_overdue, or_next, under_offer}
use Rattle.register.specs.Terms.{overdue}
use Rattle.register.specs.declared.rows.Origin.{Origin}
use Rattle.register.specs.declared.rows.Standing.{Standing}

-- passed over, or judged by its term
either : (b : Bool) (o : Option ℕ) (n : ℕ) (next : Option (ℕ × ℕ)) → cond b (or_next o n next) next ≡ or_next (cond b o None) n next
either true o n next = refl
either false o n next = refl

module _ (k date : ℕ) (os : List (Entry Origin)) (m : List (Entry Standing)) (i : ℕ) where
  one : (d : Entry Standing) → i < length m → first_overdue k date os (drop i m) ≡ or_next (overdue_under k date os (get_or m i d)) (get_or m i d).first (first_overdue k date os (drop (i + 1) m))
  unfolding first_overdue
  one d within =
      at_drop_more (first_overdue k date os) m i d within
      ∙ either (under_offer k (get_or m i d)) (overdue date (payload_found (get_or m i d).first os)) (get_or m i d).first (first_overdue k date os (drop (i + 1) m))

  pub overdue_here : (d : Entry Standing) (day : ℕ) → i < length m → overdue_under k date os (get_or m i d) ≡ Some day → first_overdue k date os (drop i m) ≡ Some (day, (get_or m i d).first)
  overdue_here d day within here = one d within ∙ ap (λ o. or_next o (get_or m i d).first (first_overdue k date os (drop (i + 1) m))) here

  pub overdue_on : (d : Entry Standing) → i < length m → overdue_under k date os (get_or m i d) ≡ None → first_overdue k date os (drop i m) ≡ first_overdue k date os (drop (i + 1) m)
  overdue_on d within none = one d within ∙ ap (λ o. or_next o (get_or m i d).first (first_overdue k date os (drop (i + 1) m))) none

  pub overdue_end : length m ≤ i → first_overdue k date os (drop i m) ≡ None
  unfolding first_overdue
  overdue_end past = at_drop_all (first_overdue k date os) m i past
