pub mod Room
pub mod Parts
pub mod Seen
pub use Rattle.par_faults.specs as par_faults
