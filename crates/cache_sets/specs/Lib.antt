pub mod Cached
pub mod Calls
pub mod Bits
pub mod Kept
pub mod Slotted
