pub mod Sparing
pub mod Sweeps
pub mod Tables
pub mod Telling
pub use Rattle.par_frame_guesses.specs as par_frame_guesses
