pub mod Growing
pub mod Room
pub mod Own
pub mod Initializers
pub mod Drafts
pub mod Whole
pub mod Compiled
pub use Rattle.par_compile_laws.specs as par_compile_laws
