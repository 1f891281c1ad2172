mod Powers
mod Codes
mod Meanings
mod Examples
