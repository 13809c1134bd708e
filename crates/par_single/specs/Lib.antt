pub mod Descriptors
pub mod Members
pub mod Links
pub mod Walk
pub mod Described
pub use Rattle.par_class.specs as par_class
pub use Rattle.par_class.specs.par_pool as par_pool
