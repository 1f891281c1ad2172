pub mod Laws
mod Counting
mod Made
mod Moves
mod Places
mod Steps
