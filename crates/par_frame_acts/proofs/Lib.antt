pub mod Arguments
pub mod Turned
pub mod Indexless
