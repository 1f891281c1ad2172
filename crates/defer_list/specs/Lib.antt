pub mod HartSet
pub mod Kept
