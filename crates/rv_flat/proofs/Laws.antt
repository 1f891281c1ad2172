-- the laws that are offered to the crates above; every other file here is private
pub mod PutBytes
pub mod StepLaws
pub mod Shapes
pub mod RunsAfter
