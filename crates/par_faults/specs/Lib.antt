pub mod Limits
pub mod Heads
pub mod Mains
pub mod Faults
pub mod Places
pub use Rattle.par_names.specs as par_names
pub use Rattle.par_parser.specs as par_parser
pub use Rattle.par_names.specs.par_span_laws as par_span_laws
pub use Rattle.par_tree.specs as par_tree
pub use Rattle.par_limits.specs as par_limits
pub use Rattle.par_limits.specs.par_resolved as par_resolved
