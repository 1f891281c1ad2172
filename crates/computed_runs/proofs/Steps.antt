-- worked steps
pub mod Worked
