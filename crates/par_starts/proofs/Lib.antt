pub mod Starting
pub mod Rows
