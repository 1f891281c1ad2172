pub mod Track
pub mod Standing
pub mod Effect
pub use Rattle.machine.specs.Story
