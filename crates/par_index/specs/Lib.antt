pub mod Firsts
pub mod Texts
pub mod Placed
pub mod Stacked
pub use Rattle.par_base.specs as par_base
