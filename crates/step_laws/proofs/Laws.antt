-- the laws that are offered to the crates above; every other file here is private
pub mod Clocks
pub mod Short
pub mod Frames
pub mod Losing
pub mod Survivors
pub mod LettingGo
