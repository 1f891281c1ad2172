pub mod Laws
mod OwnSteps
