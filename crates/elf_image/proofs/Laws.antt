-- the laws that are offered to the crates above; every other file here is private
pub mod WrittenBytes
pub mod Loading
