pub mod Laws
mod KeptRows
mod Worked
mod Counted
mod Losing
