pub mod Parts
pub mod Linkable
pub mod Bodies
pub mod Laws
pub mod LinkableLaws
pub use Rattle.par_compile_laws.specs as par_compile_laws
pub use Rattle.par_loader.specs.par_link as par_link
pub use Rattle.par_loader.specs as par_loader
