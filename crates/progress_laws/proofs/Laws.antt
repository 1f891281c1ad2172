-- the laws that are offered to the crates above, some of them passed on from below; every other file here is private
pub mod GettingOn
pub mod LineOfLeast
pub mod EveryMode
pub mod Over
pub use Rattle.removal_laws.proofs.Laws.Beating
pub use Rattle.removal_laws.proofs.Laws.Clocks
pub use Rattle.removal_laws.proofs.Laws.Delivering
pub use Rattle.removal_laws.proofs.Laws.Facing
pub use Rattle.removal_laws.proofs.Laws.Promises
