pub mod First
pub mod Joined
pub mod Added
pub use Rattle.par_compile_laws.specs.par_frames as par_frames
pub use Rattle.par_compile_laws.specs.par_kinds as par_kinds
pub use Rattle.par_compile_laws.specs as par_compile_laws
