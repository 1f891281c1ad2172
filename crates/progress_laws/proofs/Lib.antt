pub mod Laws
mod Ready
mod Faced
mod NewBits
mod AllWait
mod WithoutStamps
mod LeastStamp
mod LockRemoval
