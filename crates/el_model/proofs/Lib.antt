pub mod Laws
mod Turns
mod PlainMode
