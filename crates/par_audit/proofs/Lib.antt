pub mod Joins
pub mod Released
pub mod Rows
pub mod Releases
pub mod Files
pub mod Listed
pub use Rattle.par_secure_laws.proofs.par_typed_laws as par_typed_laws
