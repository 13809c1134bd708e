mod Names
mod Channels
mod Tasks
mod Exps
mod Stas
mod Bodies
mod ErasedMethods
pub mod ErasedRuns
pub mod Spans
pub mod Handlers
pub mod Exits
pub mod Leaves
pub mod Branches
pub mod Loops
pub mod Blocks
pub mod Tries
pub mod Stmts
pub mod Labels
pub mod Sound
pub mod Methods
pub mod Whole
pub use Rattle.par_step_laws.proofs as par_step_laws
pub use Rattle.par_step_laws.proofs.par_link as par_link
