pub mod Asking
pub mod Parsed
