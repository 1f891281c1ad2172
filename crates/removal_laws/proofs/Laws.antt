-- the laws that are offered to the crates above; every other file here is private
pub mod Attempts
pub mod Clocks
pub mod Facing
pub mod Delivering
pub mod Throughout
pub mod Climbing
pub mod Beating
pub mod Promises
