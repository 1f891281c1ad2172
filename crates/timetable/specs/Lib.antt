pub mod Costs
pub mod Counting
pub mod Rows
pub mod Table
pub mod Unsettled
