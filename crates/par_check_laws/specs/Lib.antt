pub mod Asked
pub mod Checks
pub mod Keeps
pub mod Verdict
pub mod Right
pub mod Accepted
pub mod Laws
pub use Rattle.par_pass_laws.specs as par_pass_laws
