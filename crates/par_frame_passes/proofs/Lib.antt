pub mod Landed
pub mod Puts
pub mod Sparing
pub mod Tabled
pub mod Told
pub mod Visits
pub mod Ways
