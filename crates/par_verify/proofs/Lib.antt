pub mod Calling
pub mod Counting
pub mod Deciding
pub mod Folding
pub mod Judged
pub mod Methods
pub mod Naming
pub mod Saying
pub mod Starting
pub mod Telling
pub use Rattle.par_verify_laws.proofs as par_verify_laws
