pub mod Clocks
pub mod Counts
pub mod Frames
pub mod LettingGo
pub mod Losing
pub mod Survivors
pub mod OwnSteps
