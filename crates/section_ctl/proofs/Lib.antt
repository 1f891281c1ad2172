pub mod Laws
mod PortBytes
mod Room
mod Runs
mod Drained
mod Released
mod Arming
mod AnyRoom
