pub mod InOrder
pub mod KeyOrder
