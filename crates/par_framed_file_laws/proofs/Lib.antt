pub mod Read
mod Rest
pub mod Labels
mod Starts
mod Places
mod Flows
pub mod NeededFrames
mod Reached
mod Few
mod Sound
mod Begins
mod Same
pub mod Whole
pub use Rattle.par_given_frames.proofs as par_given_frames
pub use Rattle.par_file_run_laws.proofs as par_file_run_laws
pub use Rattle.par_file_run_laws.proofs.par_link_laws as par_link_laws
