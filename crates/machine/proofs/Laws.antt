-- the laws that are offered to the crates above, some of them passed on from below; every other file here is private
pub mod Continued
pub mod Recording
pub use Rattle.engine.proofs.Laws.Places
pub use Rattle.engine.proofs.Laws.Swaps
