pub mod Names
pub mod State
pub mod Tasks
pub mod Values
pub mod Meaning
pub mod Source
pub mod Laws
pub use Rattle.par_secrecy.specs as par_secrecy
pub use Rattle.par_typed.specs as par_typed
pub use Rattle.par_secrecy.specs.par_values as par_values
