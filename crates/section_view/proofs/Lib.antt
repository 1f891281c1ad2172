pub mod Laws
mod Reserving
mod OthersViews
mod Lines
