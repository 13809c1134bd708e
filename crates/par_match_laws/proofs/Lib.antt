pub mod Bridge
pub mod Rules
pub mod Steps
pub use Rattle.par_step_laws.proofs as par_step_laws
pub use Rattle.par_step_laws.proofs.par_link as par_link
