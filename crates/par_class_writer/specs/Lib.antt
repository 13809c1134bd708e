pub mod Written
pub use Rattle.par_compile.specs.par_compile_laws as par_compile_laws
