pub mod Released
pub mod Rows
pub mod Release
pub mod SecureFor
pub mod Laws
pub use Rattle.par_secure_laws.specs.par_typed_laws as par_typed_laws
