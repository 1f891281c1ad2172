pub mod Fields
pub mod Sections
pub mod Entries
pub mod Known
