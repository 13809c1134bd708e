pub mod Frames
pub mod Methods
