pub mod Chronicle
pub mod Rows
pub mod Serial
pub mod Tally
pub mod Counting
