pub mod Laws
mod Tracks
mod Serials
mod Freed
mod Replayed
