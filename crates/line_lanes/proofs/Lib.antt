pub mod Laws
mod Bytes
mod Ones
mod Puts
