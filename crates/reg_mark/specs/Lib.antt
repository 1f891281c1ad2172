pub mod Lending
pub mod Marks
