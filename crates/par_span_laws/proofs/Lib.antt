pub mod Steps
pub mod Lists
pub mod Built
pub mod Trees
pub mod Broken
