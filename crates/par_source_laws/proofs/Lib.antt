pub mod Tokens
pub mod Numbered
pub mod Numbers
pub mod Places
pub mod Standing
pub mod Alternatives
pub mod Order
pub mod Gaps
pub mod Costs
pub mod Weights
pub mod Short
pub use Rattle.par_names.proofs as par_names
