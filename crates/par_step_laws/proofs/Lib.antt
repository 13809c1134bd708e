pub mod Extending
pub mod Placing
pub mod Examples
pub use Rattle.par_secrecy.proofs.par_policy as par_policy
