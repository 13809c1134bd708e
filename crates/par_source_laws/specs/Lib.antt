pub mod Numbers
pub mod Order
pub mod Sizes
pub mod Laws
pub use Rattle.par_names.specs as par_names
