pub mod Seen
pub mod Calls
pub mod Writes
pub mod Others
pub use Rattle.par_check_laws.specs as par_check_laws
pub use Rattle.par_nodes.specs as par_nodes
pub use Rattle.par_check_laws.specs.par_pass_laws as par_pass_laws
pub use Rattle.par_nodes.specs.par_program_laws as par_program_laws
pub use Rattle.par_nodes.specs.par_typed as par_typed
