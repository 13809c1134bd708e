pub mod Gathers
pub mod Pushes
