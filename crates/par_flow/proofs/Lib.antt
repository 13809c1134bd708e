pub mod SameSets
pub mod Points
pub mod Ways
pub mod Rows
pub mod Used
