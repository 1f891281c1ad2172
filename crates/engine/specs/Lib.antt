pub mod Parts
pub mod Lent
pub mod Reached
pub mod Acting
pub mod Missing
pub mod Restored
pub mod Outside
pub mod Inside
pub mod Views
pub mod Effect
pub mod Beginning
pub mod Unreserved
pub mod Covered
pub mod Private
pub mod MainMemory
pub mod Turns
pub mod Armed
pub mod Resting
pub use Rattle.hart_state.specs.Own as OwnState
pub use Rattle.run_laws.specs.Laws as RunLaws
pub use Rattle.run_laws.specs.PrivateRun
pub use Rattle.section_ctl.specs.State as SectionState
pub use Rattle.section_ctl.specs.declared.armed.Armed as ArmedSection
pub use Rattle.section_ctl.specs.declared.live.Live as LiveSection
pub use Rattle.section_laws.specs.EachHart
pub use Rattle.section_laws.specs.Sections
pub use Rattle.section_view.specs.KeptRun
pub use Rattle.snoop.specs.Asking
pub use Rattle.snoop.specs.Readiness
pub use Rattle.snoop.specs.Shows
pub use Rattle.step_laws.specs.Counts
pub use Rattle.step_laws.specs.Losing
pub use Rattle.step_laws.specs.Survivors
