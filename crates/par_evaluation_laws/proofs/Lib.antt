pub mod Good
pub mod Kept
pub mod AgreeingValues
pub mod Operators
pub mod Pushed
pub mod Lengths
pub mod Parts
pub mod Created
pub mod Values
pub mod Primary
pub mod Binary
pub mod Exprs
pub use Rattle.par_match_laws.proofs as par_match_laws
