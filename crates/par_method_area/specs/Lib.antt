pub mod Names
pub mod Fits
pub mod Rows
pub mod Signatures
pub mod Channels
pub mod Fields
pub mod Methods
pub mod Classes
pub mod Area
pub mod Known
pub mod Targets
pub use Rattle.par_actions.specs as par_actions
pub use Rattle.par_step_laws.specs.par_link as par_link
pub use Rattle.par_step_laws.specs as par_step_laws
