pub mod Laws
mod Wants
mod Calls
