pub mod Exits
pub mod Pass
pub mod Low
pub mod Settled
pub mod Possible
pub mod Seens
pub mod Written
pub mod Result
pub use Rattle.par_except.specs as par_except
pub use Rattle.par_except.specs.par_policy as par_policy
pub use Rattle.par_except.specs.par_program_laws as par_program_laws
pub use Rattle.par_except.specs.par_typed as par_typed
