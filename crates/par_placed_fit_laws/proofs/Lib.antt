pub mod Along
pub mod Lands
pub mod Ranges
pub mod Whole
pub mod Placing
pub mod Written
pub mod Placed
pub mod Telling
pub use Rattle.par_evaluation_laws.proofs as par_evaluation_laws
