pub mod FlatState
pub mod Memory
pub mod Step
pub mod Run
pub mod Laws
pub mod Change
pub use Rattle.elf_image.specs.Program
