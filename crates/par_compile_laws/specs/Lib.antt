pub mod Framed
pub mod DescriptorLaws
pub mod Members
pub mod Constants
pub mod Files
pub use Rattle.par_code_form.specs as par_code_form
pub use Rattle.par_frames.specs as par_frames
pub use Rattle.par_frames.specs.par_kinds as par_kinds
pub use Rattle.par_single.specs as par_single
pub use Rattle.par_run_laws.specs as par_run_laws
