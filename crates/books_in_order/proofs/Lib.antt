pub mod KeyOrdered
pub mod Moves
pub mod Places
pub mod Rises
