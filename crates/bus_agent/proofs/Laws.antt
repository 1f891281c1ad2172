-- the laws that are offered to the crates above; every other file here is private
pub mod Agents
pub mod Attempts
