pub mod Within
pub mod Law
pub mod Broken
pub use Rattle.par_tree.specs.par_grammar as par_grammar
pub use Rattle.par_tree.specs as par_tree
pub use Rattle.par_typed.specs as par_typed
