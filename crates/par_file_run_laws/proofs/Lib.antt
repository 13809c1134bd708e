pub mod Lists
pub mod Texts
pub mod Known
pub mod Fields
pub mod Callees
pub mod Classes
pub mod Held
pub mod LoadedChannels
pub mod Methods
pub mod Laid
pub mod Start
pub mod Codes
pub mod Each
pub mod Covered
pub mod Placed
pub mod Begun
pub mod Given
pub mod Erasure
pub mod Simple
pub mod Fitting
mod Inputs
mod Channels
pub mod Composed
pub mod Whole
pub use Rattle.par_source_code_laws.proofs as par_source_code_laws
pub use Rattle.par_link_laws.proofs as par_link_laws
pub use Rattle.par_placed_run_laws.proofs as par_placed_run_laws
