pub mod Exprs
pub mod Operators
pub mod Reading
