pub mod Took
pub mod Passes
pub mod Rounds
pub mod Bodies
pub use Rattle.par_pass_laws.specs.par_except as par_except
pub use Rattle.par_nodes.specs as par_nodes
pub use Rattle.par_pass_laws.specs as par_pass_laws
pub use Rattle.par_ways.specs as par_ways
