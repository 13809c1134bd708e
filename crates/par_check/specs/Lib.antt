pub mod Rows
pub mod Meets
pub mod Spots
pub mod Told
pub mod Judged
pub mod Accepted
pub use Rattle.par_asked.specs as par_asked
pub use Rattle.par_asked.specs.par_check_laws as par_check_laws
pub use Rattle.par_flow.specs as par_flow
pub use Rattle.par_rounds.specs as par_rounds
