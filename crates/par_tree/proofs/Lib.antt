pub mod Founded
pub mod Rules
pub mod Shown
