pub mod Agent
pub mod Forwarding
