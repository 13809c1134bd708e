pub mod EraseLaws
pub mod Laws
pub use Rattle.par_alike.specs as par_alike
pub use Rattle.par_evaluation_laws.specs as par_evaluation_laws
pub use Rattle.par_step_laws.specs.par_link as par_link
pub use Rattle.par_step_laws.specs as par_step_laws
