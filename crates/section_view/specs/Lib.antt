pub mod KeptRun
pub mod Release
pub mod Laws
pub mod ArmedLaws
pub use Rattle.coherence.specs.Lent
pub use Rattle.run_laws.specs.PrivateRun
