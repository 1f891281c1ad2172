pub mod Ready
pub mod LeastStamp
pub mod Laws
pub use Rattle.removal_laws.specs.Laws as RemovalLaws
