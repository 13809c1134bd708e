pub mod Runs
pub mod Subject
pub mod Shown
pub mod Secure
pub mod Longer
pub mod Laws
pub mod Target
pub mod Shows
pub mod SecureFiles
pub mod ShownFiles
pub use Rattle.par_values.specs.par_instr as par_instr
pub use Rattle.par_values.specs.par_base as par_base
pub use Rattle.par_policy.specs as par_policy
pub use Rattle.par_values.specs as par_values
