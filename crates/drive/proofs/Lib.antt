pub mod Laws
mod GoingRound
mod NextHart
mod RoundRobins
mod Turning
mod Ending
