pub mod Lists
pub mod Effects
pub mod Sizes
pub mod Refusals
