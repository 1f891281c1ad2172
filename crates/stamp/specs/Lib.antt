pub mod Stamps
pub mod StrictOrder
