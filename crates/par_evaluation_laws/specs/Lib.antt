pub mod Laid
pub mod Agreement
pub mod Programs
pub use Rattle.par_match_laws.specs.par_code_form as par_code_form
pub use Rattle.par_match_laws.specs as par_match_laws
pub use Rattle.par_program_laws.specs as par_program_laws
pub use Rattle.par_run_laws.specs as par_run_laws
