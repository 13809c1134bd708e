pub mod Joining
pub mod Firsts
pub mod Written
pub mod Climbing
pub mod Kept
pub mod Tables
pub mod Whole
pub use Rattle.par_compile_laws.proofs.par_frames as par_frames
