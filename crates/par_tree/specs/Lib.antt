pub mod Plain
pub mod Shown
pub mod Nodes
pub mod Grammar
pub mod Values
pub use Rattle.par_grammar.specs as par_grammar
