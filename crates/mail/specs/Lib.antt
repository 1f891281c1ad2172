pub mod Kept
pub mod Mailbox
pub mod Withdrawn
