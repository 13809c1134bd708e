pub mod Classes
pub mod Steps
mod Indexing
mod Listed
pub mod Said
pub mod Again
