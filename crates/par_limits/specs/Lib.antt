pub mod Asked
pub mod Listed
pub mod Within
pub mod Places
pub use Rattle.par_typed.specs.par_policy as par_policy
pub use Rattle.par_resolved.specs as par_resolved
pub use Rattle.par_typed.specs as par_typed
