pub mod Laws
mod Worked
mod Products
