pub mod Laws
mod Finds
mod Stores
mod Steps
mod Shown
mod Slots
mod Calls
mod After
