pub mod Hashed
pub mod Probing
