pub mod Laws
mod Keeping
mod OneEach
mod Places
mod Words
