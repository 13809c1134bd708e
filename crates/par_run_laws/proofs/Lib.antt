pub mod Longer
pub mod Deep
pub mod Locks
pub mod Examples
