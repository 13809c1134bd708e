pub mod Entered
pub mod Called
pub mod Happened
pub mod Started
pub mod Taken
pub mod Runs
pub mod Settled
