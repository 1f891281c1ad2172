-- worked states, with the events that are ready there
pub mod AfterRollbacks
pub mod AtTheChain
pub mod AttemptsAtTheChain
pub mod LaterAttempts
pub mod LeastStamp
pub mod Worked
