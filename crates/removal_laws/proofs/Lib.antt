pub mod Laws
mod Posting
mod Kept
mod Requests
mod Queues
mod Grounds
mod Ordering
mod Faced
mod Placing
mod Leaving
mod Serving
mod Probing
mod Telling
mod Stepping
mod Endings
