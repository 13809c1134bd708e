pub mod Listed
pub mod Marks
pub mod Numbered
pub mod Spelled
