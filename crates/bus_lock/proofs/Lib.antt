pub mod Laws
mod Shares
mod Sums
mod Keeps
mod Parts
mod Ends
