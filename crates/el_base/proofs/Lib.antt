pub mod Laws
mod Belows
mod Worked
