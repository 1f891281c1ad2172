-- the laws that are offered to the crates above; every other file here is private
pub mod BitSets
pub mod Cases
pub mod FreedOrder
pub mod HartIds
pub mod Lines
pub mod MadeLosers
pub mod ListLaws
pub mod Ranges
pub mod Recordable
pub mod SameLosers
pub mod Kinds
pub mod Options
pub mod Tests
