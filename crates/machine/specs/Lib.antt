pub mod FirstDifference
pub mod Lending
pub mod MainMemory
pub mod Opening
pub mod Promises
pub mod Recording
pub mod Resting
pub mod Stands
pub mod Story
pub use Rattle.engine.specs.LiveSection
pub use Rattle.engine.specs.MainMemory as EngineMemory
pub use Rattle.engine.specs.OwnState
pub use Rattle.engine.specs.SectionState
