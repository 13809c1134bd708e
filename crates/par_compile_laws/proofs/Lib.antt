pub mod Described
pub use Rattle.par_frames.proofs as par_frames
pub use Rattle.par_single.proofs as par_single
