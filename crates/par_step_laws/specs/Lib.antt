pub mod Classes
pub mod Methods
pub mod Fields
pub mod Links
pub mod State
pub mod Handlers
pub mod Step
pub mod Run
pub mod Target
pub mod Places
pub mod FieldLaws
pub use Rattle.par_link.specs.par_class as par_class
pub use Rattle.par_secrecy.specs.par_instr as par_instr
pub use Rattle.par_secrecy.specs.par_base as par_base
pub use Rattle.par_link.specs as par_link
pub use Rattle.par_secrecy.specs.par_policy as par_policy
pub use Rattle.par_link.specs.par_pool as par_pool
pub use Rattle.par_secrecy.specs as par_secrecy
pub use Rattle.par_link.specs.par_single as par_single
pub use Rattle.par_secrecy.specs.par_values as par_values
