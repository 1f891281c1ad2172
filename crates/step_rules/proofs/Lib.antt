pub mod Laws
mod Origins
mod CommittedWords
mod Arming
mod Completing
