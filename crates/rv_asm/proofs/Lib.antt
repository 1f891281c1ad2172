pub mod Laws
mod Placed
mod Words
