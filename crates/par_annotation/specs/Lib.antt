pub mod Ints
pub mod Seen
pub mod Calls
pub mod Targets
pub mod Numbers
pub mod Keeps
pub mod Small
pub use Rattle.par_type_rules.specs as par_type_rules
pub use Rattle.par_resolved.specs as par_resolved
