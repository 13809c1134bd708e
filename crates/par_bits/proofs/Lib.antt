pub mod Changed
pub mod Members
pub mod Sizes
