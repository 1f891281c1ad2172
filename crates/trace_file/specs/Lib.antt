pub mod Codes
pub mod FaultKinds
pub mod Faults
pub mod Fields
pub mod Outcomes
pub mod Reading
pub mod Spelling
pub mod Stretches
