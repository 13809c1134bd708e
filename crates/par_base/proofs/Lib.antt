pub mod Ascii
pub mod NameTests
pub mod Values
