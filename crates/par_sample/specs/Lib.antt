pub mod Numbers
pub mod Source
pub mod Summary
pub mod Counted
