pub mod Assembly
pub mod Finished
