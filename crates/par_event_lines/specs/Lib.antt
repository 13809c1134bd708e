pub mod Texts
pub mod Laws
pub mod Outcome
pub mod Progress
pub mod Telling
