pub mod Open
pub use Rattle.par_rounds.specs.par_except as par_except
pub use Rattle.par_rounds.specs.par_pass_laws as par_pass_laws
