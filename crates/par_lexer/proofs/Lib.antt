pub mod Comments
pub mod Prefixes
pub mod Finds
pub mod Reach
pub mod Cuts
pub mod Progress
pub mod Refusals
pub mod Laying
