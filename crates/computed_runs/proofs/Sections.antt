-- a set full of access bits
pub mod FullSet
