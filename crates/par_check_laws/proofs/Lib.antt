pub mod Monotone
pub mod Kept
pub mod Failed
pub use Rattle.par_pass_laws.proofs as par_pass_laws
