pub mod Reads
pub use Rattle.par_reader.specs as par_reader
