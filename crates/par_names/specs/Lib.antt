pub mod Declarations
pub mod Members
pub mod Policies
pub mod Exprs
pub mod Stmts
pub mod Methods
pub mod Program
pub mod Indexed
pub mod Seen
pub mod Earliest
pub mod Places
pub use Rattle.par_span_laws.specs.par_grammar as par_grammar
pub use Rattle.par_index.specs as par_index
pub use Rattle.par_span_laws.specs as par_span_laws
pub use Rattle.par_span_laws.specs.par_tree as par_tree
pub use Rattle.par_span_laws.specs.par_typed as par_typed
