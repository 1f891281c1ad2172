pub mod Items
pub mod About
