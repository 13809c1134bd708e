pub mod Entries
pub mod Growth
pub mod Spelling
pub mod Reading
pub mod Constants
pub mod Placed
pub use Rattle.par_base.specs as par_base
