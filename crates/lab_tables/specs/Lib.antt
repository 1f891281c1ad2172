pub mod LockRows
pub mod LockCounts
pub mod LineRows
pub mod LineCounts
pub mod Info
