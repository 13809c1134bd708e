pub mod Alike
pub mod Within
pub mod Counts
pub mod Noted
pub mod Passes
pub mod Orders
