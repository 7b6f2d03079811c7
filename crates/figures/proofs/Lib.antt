pub mod Derived
pub mod Orders
pub mod Weights
