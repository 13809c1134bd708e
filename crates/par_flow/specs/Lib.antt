pub mod Standing
pub mod Kept
pub mod Statements
pub mod Table
pub use Rattle.par_rounds.specs as par_rounds
