pub mod Appending
pub mod Counted
pub mod Front
pub mod Taken
