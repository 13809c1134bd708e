pub mod Relocated
pub mod Laid
pub mod Made
pub use Rattle.par_match_laws.specs as par_match_laws
