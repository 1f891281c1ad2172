pub mod Laws
mod Steady
mod Serving
mod OnlyInside
mod TriesLeft
mod Counters
mod Rooms
mod Bounded
mod Boxes
mod Messages
