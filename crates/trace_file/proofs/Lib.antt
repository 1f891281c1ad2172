pub mod Laws
mod EntryBytes
mod EntryLaws
mod EventBytes
mod FieldRows
mod Heads
mod Judged
mod Nibbles
mod Walk
mod Worked
