pub mod Accounts
pub mod Digits
pub mod Gs1
pub mod Limits
