pub mod Merged
pub mod Padded
pub mod Parts
pub mod Piled
pub mod Turned
pub use Rattle.par_kinds.proofs as par_kinds
