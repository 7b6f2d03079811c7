-- The derived order of accounts, and their derived equality, are the order by letters and number. Assumes nothing.
use Rattle.std.proofs.Common.{◌≡◌, arith}
use Rattle.std.proofs.lemmas.Bool.Decides.{nat_tests}
use Rattle.std.specs.Ordering.{is_eq}
use Rattle.figures.specs.Accounts.{account_order}
use Rattle.figures.specs.declared.accounts.Account.{Account}
use Rattle.figures.specs.contracts.accounts.AccountOrd.TheImpl as derived
use Rattle.figures.specs.contracts.accounts.AccountPartialEq.TheImpl as derived_eq

-- the derived order is the order of accounts
pub account_cmp : (a b : Account) → (derived.ghosts).cmp a b ≡ account_order a b
account_cmp a b = grind (arith, nat_tests)

-- two accounts are equal exactly where the order of accounts answers Equal
pub account_eq : (a b : Account) → (derived_eq.ghosts).eq a b ≡ is_eq (account_order a b)
account_eq a b = grind (arith, nat_tests)
