pub mod Growth
pub mod Indices
pub mod Marking
pub mod Sizes
pub mod Written
pub mod Whole
pub mod Standing
pub mod Texts
