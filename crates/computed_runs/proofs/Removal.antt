-- what lock removal keeps, at worked states
pub mod LeastOfFour
pub mod SecondAttempt
