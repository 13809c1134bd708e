pub mod Kinds
pub mod Lattice
pub mod Ways
pub mod Facts
pub mod Declares
pub mod Rules
pub mod Body
pub mod Closed
pub mod Numbered
pub mod Ranges
pub mod Orderly
pub mod TableNames
pub mod Births
pub mod Inferred
pub mod Policies
pub mod WellDeclared
pub mod TableLaws
pub mod Locals
pub mod Types
pub mod BodyNames
pub mod Makes
pub mod Uses
pub mod Forms
pub mod Proper
pub mod BodyLaws
pub use Rattle.par_typed.specs.par_lexer as par_lexer
pub use Rattle.par_typed.specs.par_policy as par_policy
pub use Rattle.par_typed.specs as par_typed
pub use Rattle.par_typed.specs.par_base as par_base
pub use Rattle.par_completes.specs as par_completes
pub use Rattle.par_completes.specs.par_tree as par_tree
