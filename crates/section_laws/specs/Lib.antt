pub mod Once
pub mod Coherence
pub mod Waiting
pub mod EachHart
pub mod Bounds
pub mod Messages
pub mod Laws
pub mod Sections
