pub mod Cut
pub mod Heaps
