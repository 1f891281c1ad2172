pub mod Laws
mod Runs
mod Windows
mod Rules
