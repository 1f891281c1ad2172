pub mod Own
pub mod Deeds
pub mod Lending
