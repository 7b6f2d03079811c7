-- The order of device numbers is that of their type, and it is total. Assumes nothing.
use Rattle.std.specs.Prelude.{◌≡◌, ℕ, ◌<◌, Bool, true, false, cond, nat_lt, refl}
use Rattle.std.specs.Cmp.{nat_cmp_is}
use Rattle.std.specs.Ordering.{is_lt, is_gt, nat_cmp, MatchOrdering}
use Rattle.std.specs.declared.cmp.Ordering.{Ordering}
use Rattle.std.specs.declared.cmp.Ordering.TheVariants.{Less, Equal, Greater}
use Rattle.std.proofs.Common.{sym, ap, ◌∙◌}
use Rattle.std.proofs.Math.Nat.{le_refl, le_antisymm, le_of_lt, lt_trans}
use Rattle.std.proofs.lemmas.Bool.{cond-true, cond-false, lt-ltb, ltb-true, le-ltb, ltb-false}
use Rattle.figures.specs.Accounts.{TotalOrder}
use Rattle.books.specs.Keys.{device_order}

-- what an answer says of the two tests that it was chosen by
was_less : (p q : Bool) → cond p Less (cond q Greater Equal) ≡ Less → p ≡ true
was_less true q h = refl
was_less false true h = ap is_lt h
was_less false false h = ap is_lt h

was_greater : (p q : Bool) → cond p Less (cond q Greater Equal) ≡ Greater → q ≡ true
was_greater true true h = refl
was_greater true false h = ap is_gt h
was_greater false true h = refl
was_greater false false h = ap is_gt h

was_equal : (p q : Bool) → cond p Less (cond q Greater Equal) ≡ Equal → (p ≡ false) × (q ≡ false)
was_equal true true h = (ap is_lt h, ap is_lt h)
was_equal true false h = (ap is_lt h, refl)
was_equal false true h = (refl, ap is_gt h)
was_equal false false h = (refl, refl)

less : (a b : ℕ) → a < b → device_order a b ≡ Less
less a b below = cond-true (nat_lt a b) _ _ (lt-ltb a b below)

greater : (a b : ℕ) → b < a → device_order a b ≡ Greater
greater a b above = cond-false (nat_lt a b) _ _ (le-ltb a b (le_of_lt above)) ∙ cond-true (nat_lt b a) _ _ (lt-ltb b a above)

same : (a : ℕ) → device_order a a ≡ Equal
same a = cond-false (nat_lt a a) _ _ (le-ltb a a (le_refl a)) ∙ cond-false (nat_lt a a) _ _ (le-ltb a a (le_refl a))

below : (a b : ℕ) → device_order a b ≡ Less → a < b
below a b h = ltb-true a b (was_less (nat_lt a b) (nat_lt b a) h)

above : (a b : ℕ) → device_order a b ≡ Greater → b < a
above a b h = ltb-true b a (was_greater (nat_lt a b) (nat_lt b a) h)

equal : (a b : ℕ) → device_order a b ≡ Equal → a ≡ b
equal a b h =
    let tests = was_equal (nat_lt a b) (nat_lt b a) h in
    le_antisymm (ltb-false b a tests.1) (ltb-false a b tests.0)

pub device_order_total : TotalOrder device_order
device_order_total = record {
  same = same;
  equal = equal;
  flips = λ a b h. greater b a (below a b h);
  flips_back = λ a b h. less b a (above a b h);
  transitive = λ a b c h k. less a c (lt_trans (below a b h) (below b c k));
}

told : (a b : ℕ) (answer : Ordering) → device_order a b ≡ answer → MatchOrdering answer (a < b) (a ≡ b) (b < a)
told a b Less h = below a b h
told a b Equal h = equal a b h
told a b Greater h = above a b h

pub device_cmp : (one other : ℕ) → nat_cmp one other ≡ device_order one other
device_cmp one other = sym (nat_cmp_is one other (device_order one other) (told one other (device_order one other) refl))
