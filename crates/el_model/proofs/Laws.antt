-- the laws that are offered to the crates above; every other file here is private
pub mod Tests
pub mod Keeps
pub mod Folds
pub mod Coming
pub mod Harts
pub mod Losing
pub mod Restoring
pub mod AllHarts
pub mod EachHart
pub mod Orders
pub mod BusEvents
pub mod Deeds
pub mod Silent
pub mod FromStart
pub mod HartParts
pub mod Conflicts
pub mod Unmarked
