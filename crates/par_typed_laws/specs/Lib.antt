pub mod Tables
pub mod Numbers
pub mod SetFirst
pub mod Sizes
pub mod Texts
pub mod Orderly
pub mod Fits
pub mod Control
pub mod Signatures
pub mod Beginning
pub mod Bodied
pub mod Blocks
pub mod Limits
pub mod WellTyped
pub mod Typed
pub mod Laws
pub use Rattle.par_program_laws.specs as par_program_laws
pub use Rattle.par_program_laws.specs.par_completes as par_completes
pub use Rattle.par_faults.specs as par_faults
pub use Rattle.par_faults.specs.par_resolved as par_resolved
pub use Rattle.par_type_rules.specs as par_type_rules
