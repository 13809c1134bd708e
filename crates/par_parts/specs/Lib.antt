pub mod Statements
pub mod Gathered
pub mod Written
