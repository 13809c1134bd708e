pub mod Lists
pub mod Placed
pub mod Sized
pub mod Sums
pub mod Locked
pub mod Listed
pub mod Headed
pub mod Joined
pub mod Few
pub mod Within
pub mod Passes
pub mod Kept
pub mod Written
pub mod Counted
pub mod Policies
pub mod FaultPlaces
pub use Rattle.par_names.proofs as par_names
pub use Rattle.par_names.proofs.par_span_laws as par_span_laws
pub use Rattle.par_limits.proofs.par_resolved as par_resolved
