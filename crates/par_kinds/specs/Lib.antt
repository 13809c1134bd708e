pub mod Kinds
pub mod Acts
pub mod Fits
pub mod Linked
pub mod Shapes
pub mod Told
pub mod Passes
pub mod Laws
pub use Rattle.par_step_laws.specs.par_class as par_class
pub use Rattle.par_step_laws.specs.par_link as par_link
pub use Rattle.par_step_laws.specs.par_policy as par_policy
pub use Rattle.par_step_laws.specs.par_single as par_single
pub use Rattle.par_step_laws.specs as par_step_laws
pub use Rattle.par_step_laws.specs.par_values as par_values
