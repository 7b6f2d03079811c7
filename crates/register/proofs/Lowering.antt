-- The steps of a loop that lowers holders' totals. Assumes nothing.
use Rattle.std.proofs.Common.{◌≡◌, ℕ, ◌+◌, ◌<◌, ◌≤◌, List, length, get_or, drop}
use Rattle.std.proofs.lemmas.List.{at_drop_more, at_drop_all}
use Rattle.figures.specs.declared.accounts.Account.{Account}
use Rattle.books.specs.Ledger.{Ledger}
use Rattle.range_map.specs.declared.entry.Entry.{Entry}
use Rattle.register.specs.Answers.{lowered_for}
use Rattle.register.specs.Holdings.{lowered_all}
use Rattle.register.specs.declared.rows.Origin.{Origin}
use Rattle.register.specs.declared.rows.Standing.{Standing}

module _ (date : ℕ) (os : List (Entry Origin)) (m : List (Entry Standing)) (i : ℕ) where
  pub lowered_on : (d : Entry Standing) (l : Ledger Account) → i < length m → lowered_all date os (drop i m) l ≡ lowered_all date os (drop (i + 1) m) (lowered_for date os (get_or m i d) l)
  unfolding lowered_all
  lowered_on d l within = at_drop_more (λ k. lowered_all date os k l) m i d within

  pub lowered_end : (l : Ledger Account) → length m ≤ i → lowered_all date os (drop i m) l ≡ l
  unfolding lowered_all
  lowered_end l past = at_drop_all (λ k. lowered_all date os k l) m i past
