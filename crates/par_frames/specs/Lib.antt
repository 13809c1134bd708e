pub mod Names
pub mod Attribute
pub mod Forms
pub mod Room
pub mod Given
pub mod Needed
pub mod Broken
pub mod Laws
pub use Rattle.par_kinds.specs as par_kinds
pub use Rattle.par_kinds.specs.par_link as par_link
pub use Rattle.par_kinds.specs.par_step_laws as par_step_laws
