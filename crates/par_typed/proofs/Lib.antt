pub mod Nodes
pub mod Shown
