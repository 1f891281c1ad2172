-- the laws that are offered to the crates above; every other file here is private
pub mod LineLaws
pub mod GivenUp
pub mod Owners
pub mod Fetched
pub mod RoomLaws
pub mod GivenBackLaws
pub mod LoanSteps
pub mod Offered
