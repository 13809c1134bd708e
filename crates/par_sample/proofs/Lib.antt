pub mod Lines
pub mod Short
pub mod Sums
