pub mod Laws
mod Headers
mod WrittenFaults
mod WrittenProgram
mod Filling
mod Accepted
mod CodeLength
mod Valid
mod Worked
