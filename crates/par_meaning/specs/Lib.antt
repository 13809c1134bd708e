pub mod Work
pub mod Onward
pub mod Whole
