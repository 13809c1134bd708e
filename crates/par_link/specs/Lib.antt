pub mod Channels
pub mod Inputs
pub mod Linked
pub mod Order
pub mod Rules
pub mod Stops
pub mod Told
pub use Rattle.par_references.specs.declared.entry as entry
pub use Rattle.par_references.specs.Builtins
pub use Rattle.par_references.specs.Conditions
pub use Rattle.par_references.specs.Firsts
pub use Rattle.par_references.specs.Named
pub use Rattle.par_references.specs.Placed
pub use Rattle.par_single.specs.par_class as par_class
pub use Rattle.par_single.specs.par_pool as par_pool
pub use Rattle.par_single.specs as par_single
