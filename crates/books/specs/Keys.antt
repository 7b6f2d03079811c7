-- The two kinds of key: their order, and how they are hashed. Assumes nothing.
use Rattle.std.specs.Prelude.{ℕ, ◌+◌, ◌*◌, ◌/◌, ◌%◌, ◌^◌}
use Rattle.std.specs.declared.cmp.Ordering.TheVariants.{Equal}
use Rattle.std.specs.declared.cmp.Ordering.{Ordering}
use Rattle.figures.specs.Accounts.{first_by}
use Rattle.figures.specs.declared.accounts.Account.{Account}

-- device numbers go by size
abbrev pub device_order : ℕ → ℕ → Ordering
device_order m n = first_by m n Equal

-- The upper half of a product with 2^64 divided by the golden ratio: neighbours land far apart, also
-- where they differ by ten, as device numbers do by their check digit.
abbrev pub mixed : ℕ → ℕ
mixed n = (n * 11_400_714_819_323_198_485) % 2 ^ 64 / 2 ^ 32

-- the letters above the number, so that no two accounts are hashed from one figure
abbrev pub packed : Account → ℕ
packed a = (a.first * 256 + a.second) * 2 ^ 32 + a.number

abbrev pub account_spread : Account → ℕ
account_spread a = mixed (packed a)
