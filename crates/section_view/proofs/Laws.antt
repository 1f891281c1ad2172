-- the laws that are offered to the crates above, some of them passed on from below; every other file here is private
pub mod Shapes
pub mod ShownBytes
pub mod Beginning
pub mod GoingOn
pub mod Arming
pub mod Surviving
pub mod Releasing
pub mod Committing
pub mod OfProgram
pub use Rattle.coherence.proofs.Laws.Offered
pub use Rattle.run_laws.proofs.Laws.Touches
