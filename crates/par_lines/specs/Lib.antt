pub mod Lines
pub use Rattle.par_secrecy.specs as par_secrecy
