mod Telling
pub mod LockSets
pub mod Lists
pub mod Puts
pub mod States
pub mod OneRun
pub mod TwoRuns
pub mod Leaves
pub mod Writes
pub mod Locals
pub mod Locks
pub mod Parts
pub mod Calls
pub mod CallsInStep
pub mod Arguments
