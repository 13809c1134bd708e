pub mod Locals
pub mod Pushed
pub mod Classes
pub mod Weights
pub use Rattle.par_program_laws.proofs.par_policy as par_policy
