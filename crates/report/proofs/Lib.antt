pub mod Laws
mod EachHart
mod Putting
mod Reporting
mod Finding
