-- the laws that are offered to the crates above; every other file here is private
pub mod Touches
pub mod Alike
pub mod WordStores
pub mod Reserving
pub mod Survival
pub mod Shown
pub mod ButAView
pub mod Bits
pub mod Growing
pub mod Restored
pub mod Reached
pub mod EventsBeside
pub mod LettingGo
pub mod Kept
pub mod Reachable
pub mod Releasing
