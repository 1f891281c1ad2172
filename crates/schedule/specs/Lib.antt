pub mod Generator
pub mod Drawn
pub mod Lines
