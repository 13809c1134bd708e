pub mod Layout
pub mod Spelling
pub mod Reading
pub mod Writing
pub use Rattle.par_pool.specs as par_pool
