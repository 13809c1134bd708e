pub mod Completes
pub mod Typed
pub use Rattle.par_typed.specs.par_lexer as par_lexer
pub use Rattle.par_typed.specs.par_policy as par_policy
pub use Rattle.par_tree.specs as par_tree
pub use Rattle.par_typed.specs as par_typed
