pub mod Laws
mod Boxes
mod Withdrawals
