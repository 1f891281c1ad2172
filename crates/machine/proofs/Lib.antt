pub mod Laws
mod Openings
mod GoesOn
mod Resting
mod Promised
mod InSections
mod There
mod Readiness
mod MainLines
mod Compared
mod SameOutcomes
