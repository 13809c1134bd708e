pub mod Areas
pub mod Arithmetic
pub mod Operations
pub mod Effects
pub mod Reasons
pub mod Ran
pub mod Laws
pub use Rattle.par_instr.specs as par_instr
pub use Rattle.par_base.specs as par_base
