-- the laws that are offered to the crates above; every other file here is private
pub mod NextAction
pub mod Begins
pub mod Elides
