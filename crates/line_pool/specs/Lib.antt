pub mod Calls
pub mod Keeping
pub mod Kept
pub mod Lending
pub mod Others
pub mod Pooled
