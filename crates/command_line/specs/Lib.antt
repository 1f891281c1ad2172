pub mod Numbers
pub mod Pieces
pub mod Fields
pub mod Simple
pub mod Words
pub mod Settings
