pub mod ReadLaws
pub mod Met
pub mod NeededLaws
pub mod Laws
pub use Rattle.par_given_frames.specs as par_given_frames
pub use Rattle.par_compile_laws.specs as par_compile_laws
pub use Rattle.par_typed_laws.specs as par_typed_laws
pub use Rattle.par_framed_program.specs as par_framed_program
pub use Rattle.par_file_run_laws.specs as par_file_run_laws
pub use Rattle.par_file_run_laws.specs.par_link_laws as par_link_laws
