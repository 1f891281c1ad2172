pub mod Held
pub mod Slotted
pub mod Entries
pub mod Calls
