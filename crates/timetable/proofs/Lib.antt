mod Conflicts
mod Counting
mod Readings
mod Rows
mod Standing
mod Summing
