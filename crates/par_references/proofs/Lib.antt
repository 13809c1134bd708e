pub mod Below
pub mod Counted
pub mod Digits
pub mod Keyed
pub mod Passing
pub mod Placing
pub mod Repeated
