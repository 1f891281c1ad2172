-- the laws that are offered to the crates above
pub mod Fields
pub mod Numbers
