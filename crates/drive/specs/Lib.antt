pub mod RoundRobin
pub mod Turns
pub mod Drivers
pub mod Laws
pub use Rattle.machine.specs.FirstDifference
pub use Rattle.machine.specs.Story
pub use Rattle.machine.specs.declared.fault.MakeFault
