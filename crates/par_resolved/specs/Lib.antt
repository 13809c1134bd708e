pub mod Sets
pub mod Few
pub mod SeenNumbers
pub mod Seen
pub mod Numbers
pub mod Policies
pub mod Read
pub mod Same
pub mod Sizes
pub mod Settled
pub mod Nearest
pub mod Births
pub mod Numbered
pub mod Limits
pub mod Resolved
pub use Rattle.par_names.specs as par_names
pub use Rattle.par_names.specs.par_tree as par_tree
