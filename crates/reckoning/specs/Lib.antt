pub mod Kinds
pub mod Reckoned
pub mod Allowed
pub mod Agreement
