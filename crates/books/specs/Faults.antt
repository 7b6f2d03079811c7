-- The refusals of a book, and the answers of its calls. Assumes nothing.
use Rattle.std.specs.Prelude.{ℕ, ◌+◌, Bool, cond, length, Ok, Err, Result}
use Rattle.figures.specs.declared.names.BookName.{BookName}
use Rattle.books.specs.declared.faults.BookFault.{BookFault}
use Rattle.books.specs.declared.faults.BookFault.TheVariants.{Present, Full, Absent}
use Rattle.books.specs.Ledger.{Ledger, present, roomy, enrolled, written_in}

-- the number of a refusal
abbrev pub number_of : BookFault → ℕ
number_of (Present b) = 4
number_of (Full b) = 5
number_of (Absent b) = 6

-- and what it returns: which book
abbrev pub book_of : BookFault → BookName
book_of (Present b) = b
book_of (Full b) = b
book_of (Absent b) = b

-- Present comes before full.
abbrev pub unless_refused : {P T : Type 0} → BookName → (P → Bool) → Ledger P → T → Result T BookFault
unless_refused book is l ok = cond (present is l.members) (Err (Present book)) (cond (roomy l) (Ok ok) (Err (Full book)))

abbrev pub add_verdict : {P : Type 0} → BookName → (P → Bool) → Ledger P → Result Unit BookFault
add_verdict book is l = unless_refused book is l tt

-- the running number of the member that joins
abbrev pub add_answer : {P : Type 0} → BookName → (P → Bool) → Ledger P → Result ℕ BookFault
add_answer book is l = unless_refused book is l (length l.members + 1)

abbrev pub add_after : {P : Type 0} → (P → Bool) → P → Ledger P → Ledger P
add_after is k l = cond (present is l.members) l (cond (roomy l) (enrolled k l) l)

abbrev pub write_verdict : {P : Type 0} → BookName → (P → Bool) → Ledger P → Result Unit BookFault
write_verdict book is l = cond (present is l.members) (Ok tt) (Err (Absent book))

abbrev pub write_after : {P : Type 0} → (P → Bool) → ℕ → ℕ → Ledger P → Ledger P
write_after is f s l = cond (present is l.members) (written_in is f s l) l

-- an answer without its value
abbrev pub forgotten : {T E : Type 0} → Result T E → Result Unit E
forgotten (Ok x) = Ok tt
forgotten (Err e) = Err e
