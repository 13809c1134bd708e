pub mod Asks
pub mod Forms
pub mod Left
pub mod Others
pub use Rattle.par_check_laws.proofs.par_pass_laws as par_pass_laws
pub use Rattle.par_check_laws.proofs as par_check_laws
