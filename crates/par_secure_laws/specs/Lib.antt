pub mod Release
pub mod Explained
pub mod Laws
pub use Rattle.par_typed_laws.specs as par_typed_laws
