pub mod Placed
mod Positions
pub mod Walk
mod Locks
pub mod Named
mod Operations
pub mod Branches
pub mod Found
mod Caught
pub mod Runs
pub mod Made
