pub mod Counting
pub mod Table
