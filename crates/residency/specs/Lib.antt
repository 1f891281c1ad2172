pub mod Residency
pub mod Cache
pub mod WellFormed
pub mod Keyed
