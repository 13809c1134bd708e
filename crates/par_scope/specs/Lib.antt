pub mod Names
pub mod Indexed
pub mod Locals
pub mod Own
pub mod Members
pub mod Home
pub mod Meaning
