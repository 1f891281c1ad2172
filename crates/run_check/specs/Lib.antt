pub mod Certified
pub mod Check
pub mod Content
pub mod Differences
pub mod FaultKinds
pub mod Faults
pub mod Rules
pub mod Spelling
