pub mod Shown
pub mod Named
pub mod Asked
pub mod Erased
