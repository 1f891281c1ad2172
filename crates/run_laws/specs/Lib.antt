pub mod PrivateRun
pub mod Laws
