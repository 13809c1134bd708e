pub mod Agreement
pub mod Extension
pub mod Seeing
pub mod Examples
pub mod FileExamples
pub mod Carried
pub mod Given
pub mod Fitting
pub use Rattle.par_policy.proofs as par_policy
