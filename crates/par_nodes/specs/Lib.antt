pub mod Seen
pub mod Listed
pub mod Possible
pub mod Starts
pub use Rattle.par_program_laws.specs as par_program_laws
pub use Rattle.par_program_laws.specs.par_typed as par_typed
