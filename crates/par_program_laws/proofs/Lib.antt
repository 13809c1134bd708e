pub mod Methods
pub mod TableNames
pub mod Parts
pub use Rattle.par_typed.proofs as par_typed
