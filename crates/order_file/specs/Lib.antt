pub mod Checked
pub mod Checks
pub mod Commands
pub mod Faults
pub mod Layouts
pub mod Operands
pub mod Reading
