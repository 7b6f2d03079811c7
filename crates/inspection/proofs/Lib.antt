pub mod Found
pub mod Walk
