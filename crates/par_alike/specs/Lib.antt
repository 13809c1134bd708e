pub mod Subject
pub mod Tests
pub mod Watched
pub use Rattle.par_check_laws.specs as par_check_laws
