pub mod Lines
pub mod Numbers
pub mod Entries
pub mod Rules
pub mod Seen
pub mod Places
pub mod Laws
pub use Rattle.par_values.specs.par_instr as par_instr
pub use Rattle.par_values.specs as par_values
