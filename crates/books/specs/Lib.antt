pub mod Changes
pub mod Faults
pub mod Keys
pub mod Ledger
pub mod Rows
pub mod Numbers
