pub mod Atoms
pub mod Laws
