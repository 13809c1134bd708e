pub mod Alternatives
pub mod Ends
pub mod Sizes
