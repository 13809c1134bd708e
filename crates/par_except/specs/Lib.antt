pub mod Joins
pub mod Seen
pub mod Exits
pub mod Throws
pub mod Weight
pub use Rattle.par_program_laws.specs.par_lexer as par_lexer
pub use Rattle.par_program_laws.specs.par_policy as par_policy
pub use Rattle.par_program_laws.specs as par_program_laws
pub use Rattle.par_program_laws.specs.par_typed as par_typed
