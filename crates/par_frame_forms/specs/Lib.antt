pub mod Spelled
pub mod Reading
pub mod Written
pub mod Laws
pub use Rattle.par_pool.specs as par_pool
