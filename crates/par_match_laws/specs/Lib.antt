pub mod Engine
pub mod Files
pub mod EngineLaws
pub mod Labelled
pub mod Naming
pub use Rattle.par_step_laws.specs.par_link as par_link
pub use Rattle.par_step_laws.specs as par_step_laws
pub use Rattle.par_code_form.specs as par_code_form
pub use Rattle.par_code_form.specs.par_completes as par_completes
