pub mod Seens
pub mod Keeps
pub mod Bounds
pub mod Collected
pub mod Filling
pub mod Laws
pub mod Printed
pub mod First
pub mod Births
pub mod Least
pub mod Judged
pub mod Filled
pub mod Inferred
pub use Rattle.par_check.specs.par_check_laws as par_check_laws
