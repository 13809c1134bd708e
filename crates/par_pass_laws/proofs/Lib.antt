pub mod Order
pub mod Ups
pub mod Under
pub mod Lies
pub mod Least
pub mod Instances
pub mod Settles
pub mod Points
pub mod Possible
pub mod Tables
pub mod Along
pub mod Rows
pub use Rattle.par_except.proofs.par_policy as par_policy
