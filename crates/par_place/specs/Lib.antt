pub mod Offsets
pub mod Labels
pub mod Laws
pub use Rattle.par_code_form.specs as par_code_form
