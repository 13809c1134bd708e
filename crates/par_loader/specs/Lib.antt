pub mod Reads
pub mod Mentions
pub mod Found
pub mod Loaded
pub mod Judged
pub mod Ends
pub mod Begun
pub use Rattle.par_link.specs as par_link
