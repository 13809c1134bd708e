pub mod Shapes
pub mod Indexed
