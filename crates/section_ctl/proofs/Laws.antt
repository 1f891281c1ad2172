-- the laws that are offered to the crates above; every other file here is private
pub mod AnyPool
pub mod Begins
pub mod Lent
pub mod Shows
