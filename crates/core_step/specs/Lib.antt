pub mod Port
pub mod Run
pub mod Written
