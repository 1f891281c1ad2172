-- the laws that are offered to the crates above; every other file here is private
pub mod Cuts
pub mod Runs
pub mod Lines
pub mod Bytes
