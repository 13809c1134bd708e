pub mod Birth
pub mod Nodes
pub mod Members
pub mod Plain
pub mod Shown
pub use Rattle.par_policy.specs.par_bits as par_bits
pub use Rattle.par_lexer.specs as par_lexer
pub use Rattle.par_policy.specs as par_policy
pub use Rattle.par_lexer.specs.par_base as par_base
