pub mod Laws
mod Frame
mod LostReservations
mod Changes
mod Undoing
mod Applied
mod Worked
