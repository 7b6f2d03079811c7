-- The order of accounts is total. Assumes nothing.
use Rattle.std.proofs.Common.{◌≡◌, arith}
use Rattle.std.proofs.lemmas.Bool.Decides.{nat_tests}
use Rattle.figures.specs.Accounts.{account_order, TotalOrder}
use Rattle.figures.specs.declared.accounts.Account.{Account}

same_account : (a b : Account) → a.first ≡ b.first → a.second ≡ b.second → a.number ≡ b.number → a ≡ b
same_account a b p q r = λ i. record { first = p i; second = q i; number = r i }

pub account_order_total : TotalOrder account_order
account_order_total = record {
  same = λ a. grind (arith, nat_tests);
  equal = λ a b h. same_account a b (grind (arith, nat_tests)) (grind (arith, nat_tests)) (grind (arith, nat_tests));
  flips = λ a b h. grind (arith, nat_tests);
  flips_back = λ a b h. grind (arith, nat_tests);
  transitive = λ a b c h k. grind (arith, nat_tests);
}
