pub mod Answers
pub mod Calls
pub mod Said
pub mod Starts
pub mod Told
pub use Rattle.par_verify_laws.specs.par_frames as par_frames
pub use Rattle.par_verify_laws.specs as par_verify_laws
