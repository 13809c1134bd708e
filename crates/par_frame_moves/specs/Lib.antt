pub mod Briefs
pub use Rattle.par_frame_steps.specs.par_kinds as par_kinds
