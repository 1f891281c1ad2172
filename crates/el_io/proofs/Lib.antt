pub mod Laws
mod Reading
mod Keeping
mod Storing
mod Taking
mod Worked
