-- The numbers and values of the refusals that arise before an order reaches the books. Assumes nothing.
use Rattle.std.specs.Prelude.{ℕ, List, [], ◌∷◌}
use Rattle.order_file.specs.declared.faults.OperandFault.{OperandFault}
use Rattle.order_file.specs.declared.faults.ReadFault.{ReadFault}
use Rattle.order_file.specs.declared.faults.ReadFault.TheVariants.{UnknownCommand, CutShort}

abbrev pub read_number : ReadFault → ℕ
read_number (UnknownCommand place) = 1
read_number (CutShort place) = 2

-- what the refusal returns: the place of the order
abbrev pub read_values : ReadFault → List ℕ
read_values (UnknownCommand place) = place ∷ []
read_values (CutShort place) = place ∷ []

abbrev pub operand_number : OperandFault → ℕ
operand_number fault = 3

-- what the refusal returns: the operand's distance from the command byte
abbrev pub operand_values : OperandFault → List ℕ
operand_values fault = fault.distance ∷ []
