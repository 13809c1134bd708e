pub mod Frame
pub mod Held
pub mod Stored
pub mod Named
pub mod Bodied
pub mod Lined
