-- What the front of an order file says: an order with the bytes after it, or a refusal. Assumes nothing.
use Rattle.std.specs.Prelude.{ℕ, cond, List, [], ◌∷◌, length, take, drop, Some, None, Ok, Err, Option, Result, nat_lt}
use Rattle.order_file.specs.Commands.{kind_of, width_of}
use Rattle.order_file.specs.Layouts.{order_of}
use Rattle.order_file.specs.declared.faults.ReadFault.{ReadFault}
use Rattle.order_file.specs.declared.faults.ReadFault.TheVariants.{UnknownCommand, CutShort}
use Rattle.order_file.specs.declared.kinds.Kind.{Kind}
use Rattle.order_file.specs.declared.orders.Order.{Order}

-- after the command byte; an unknown command is told before what is missing behind it
abbrev pub read_operands : Option Kind → List ℕ → ℕ → Result (Order × List ℕ) ReadFault
read_operands None rest place = Err (UnknownCommand place)
read_operands (Some kind) rest place = cond (nat_lt (length rest) (width_of kind)) (Err (CutShort place)) (Ok (order_of kind (take (width_of kind) rest), drop (width_of kind) rest))

-- `place` is where the first byte stands in the file
abbrev pub read_order : List ℕ → ℕ → Result (Order × List ℕ) ReadFault
read_order [] place = Err (CutShort place)
read_order (command ∷ rest) place = read_operands (kind_of command) rest place
