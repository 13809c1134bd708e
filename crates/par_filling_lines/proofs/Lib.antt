pub mod Joined
pub use Rattle.par_told.proofs as par_told
