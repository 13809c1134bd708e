pub mod Ranges
pub mod KeptRows
pub mod Spots
pub mod Joins
pub mod LockSets
pub mod Kept
pub mod Meeting
pub mod Told
pub mod Judged
pub mod Right
pub use Rattle.par_asked.proofs as par_asked
pub use Rattle.par_asked.proofs.par_check_laws as par_check_laws
