-- What an account is, and the order of accounts. Assumes nothing.
use Rattle.std.specs.Prelude.{◌≡◌, ℕ, Bool, cond, ◌&&◌, nat_le, nat_lt}
use Rattle.std.specs.declared.cmp.Ordering.TheVariants.{Less, Equal, Greater}
use Rattle.std.specs.declared.cmp.Ordering.{Ordering}
use Rattle.figures.specs.Limits.{last_account_number}
use Rattle.figures.specs.declared.accounts.Account.{Account}

-- a capital letter, A to Z
abbrev pub capital : ℕ → Bool
capital letter = nat_le 65 letter && nat_le letter 90

-- two capital letters and a number from 1 to 999,999
abbrev pub account_lawful : ℕ → ℕ → ℕ → Bool
account_lawful a b n = capital a && (capital b && (nat_le 1 n && nat_le n last_account_number))

abbrev pub account_of : ℕ → ℕ → ℕ → Account
account_of a b n = record { first = a; second = b; number = n }

-- two numbers decide the order if they differ; else what follows does
abbrev pub first_by : ℕ → ℕ → Ordering → Ordering
first_by m n rest = cond (nat_lt m n) Less (cond (nat_lt n m) Greater rest)

-- by letters, then by number
abbrev pub account_order : Account → Account → Ordering
account_order a b = first_by a.first b.first (first_by a.second b.second (first_by a.number b.number Equal))

-- A comparison is a total order: its one answer says Equal of the same value only, Less one way round is Greater
-- the other way, and Less is transitive.
pub record TotalOrder {K : Type 0} (compares : K → K → Ordering) : Type 0 where
  pub same : (a : K) → compares a a ≡ Equal
  pub equal : (a b : K) → compares a b ≡ Equal → a ≡ b
  pub flips : (a b : K) → compares a b ≡ Less → compares b a ≡ Greater
  pub flips_back : (a b : K) → compares a b ≡ Greater → compares b a ≡ Less
  pub transitive : (a b c : K) → compares a b ≡ Less → compares b c ≡ Less → compares a c ≡ Less
