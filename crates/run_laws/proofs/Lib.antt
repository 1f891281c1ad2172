pub mod Laws
mod Beside
mod OtherHarts
mod LoadedBytes
