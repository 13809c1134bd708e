pub mod Puts
pub mod Joined
pub mod Found
pub mod Told
