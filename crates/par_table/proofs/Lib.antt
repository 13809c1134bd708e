pub mod Distinct
pub mod Inferred
pub mod Rooms
pub mod Asked
pub mod Choices
pub mod Mains
pub mod Loops
pub mod Whole
pub mod Kept
pub use Rattle.par_faults.proofs as par_faults
