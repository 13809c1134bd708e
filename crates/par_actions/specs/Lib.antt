pub mod Done
pub mod Last
pub mod Combining
pub mod Branches
pub mod Fits
pub mod Leaving
pub mod Fields
pub mod Objects
pub mod Callee
pub mod Calls
pub use Rattle.par_lines.specs as par_lines
