pub mod Layout
pub mod Code
pub mod Parts
pub mod LayoutLaws
pub mod LoadedLaws
pub mod Laws
pub use Rattle.par_source_code_laws.specs as par_source_code_laws
pub use Rattle.par_compile_laws.specs as par_compile_laws
pub use Rattle.par_source_code_laws.specs.par_typed_laws as par_typed_laws
pub use Rattle.par_link_laws.specs as par_link_laws
pub use Rattle.par_placed_run_laws.specs.par_match_laws as par_match_laws
pub use Rattle.par_code_laws.specs.par_step_laws as par_step_laws
