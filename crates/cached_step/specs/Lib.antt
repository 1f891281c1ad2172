pub mod CacheRun
pub mod Memory
pub mod Laws
