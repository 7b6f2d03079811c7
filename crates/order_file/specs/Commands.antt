-- The command byte of each kind of order, and the bytes of operands that follow it. Assumes nothing.
use Rattle.std.specs.Prelude.{ℕ, cond, Some, None, Option, ◌==◌}
use Rattle.order_file.specs.declared.kinds.Kind.{Kind}
use Rattle.order_file.specs.declared.kinds.Kind.TheVariants.{Account, Device, Day, Declare, Offer, Accept, Recall, Cancel}

abbrev pub command_of : Kind → ℕ
command_of Account = 0x41
command_of Device = 0x50
command_of Day = 0x44
command_of Declare = 0x49
command_of Offer = 0x4F
command_of Accept = 0x59
command_of Recall = 0x52
command_of Cancel = 0x43

-- the kind with this command byte, or the answer of what follows
abbrev pub or_kind : Kind → ℕ → Option Kind → Option Kind
or_kind kind command rest = cond (command == command_of kind) (Some kind) rest

abbrev pub kind_of : ℕ → Option Kind
kind_of c = or_kind Account c (or_kind Device c (or_kind Day c (or_kind Declare c (or_kind Offer c (or_kind Accept c (or_kind Recall c (or_kind Cancel c None)))))))

abbrev pub width_of : Kind → ℕ
width_of Account = 6
width_of Device = 8
width_of Day = 4
width_of Declare = 30
width_of Offer = 28
width_of Accept = 10
width_of Recall = 10
width_of Cancel = 48
