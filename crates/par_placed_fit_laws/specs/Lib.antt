pub mod Walks
pub mod Signs
pub mod Tells
pub mod Fits
pub mod Given
pub mod Laws
pub mod Acts
pub mod ItemLaws
pub use Rattle.par_evaluation_laws.specs as par_evaluation_laws
pub use Rattle.par_compile_laws.specs as par_compile_laws
pub use Rattle.par_evaluation_laws.specs.par_program_laws as par_program_laws
pub use Rattle.par_evaluation_laws.specs.par_match_laws as par_match_laws
