pub mod Found
pub mod Laws
pub mod Ledgers
pub mod Numbering
pub mod Posted
pub mod RowEdits
pub mod Verdicts
