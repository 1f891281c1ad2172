pub mod Kinds
pub mod Scale
pub mod Pieces
pub mod Bars
