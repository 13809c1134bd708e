pub mod Blanks
pub mod Tables
pub mod Pieces
pub mod Tokens
pub mod Spans
pub mod Places
pub mod Laws
pub use Rattle.par_base.specs as par_base
