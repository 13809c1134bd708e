pub mod Marks
pub mod Merged
pub mod Piled
pub use Rattle.par_kinds.specs as par_kinds
pub use Rattle.par_kinds.specs.par_step_laws as par_step_laws
pub use Rattle.par_place_kinds.specs as par_place_kinds
