pub mod Texts
pub use Rattle.par_told.specs as par_told
