-- the laws that are offered to the crates above, some of them passed on from below; every other file here is private
pub use Rattle.machine.proofs.Laws.Continued
pub use Rattle.machine.proofs.Laws.Recording
