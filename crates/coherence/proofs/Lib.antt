pub mod Laws
mod Stays
mod GivingUp
mod FetchLaws
mod KeptLaws
mod ServedLaws
mod ChangedLaws
mod AtFirst
