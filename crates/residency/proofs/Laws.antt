-- the laws that are offered to the crates above; every other file here is private
pub mod KeyedLemmas
pub mod ResidencyLemmas
pub mod CacheLemmas
pub mod WellFormedLemmas
pub mod MarkLemmas
pub mod Unmarked
pub mod AbsentWays
pub mod Rooms
