pub mod Into
pub mod Lists
pub mod Numbered
pub mod Spelled
