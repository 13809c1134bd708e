pub mod Noted
pub mod Lookups
pub mod Callees
pub mod Least
pub mod Behind
pub mod Pushed
pub mod ExprForms
pub mod StmtForms
pub mod Left
pub mod Gone
pub mod Places
pub use Rattle.par_span_laws.proofs as par_span_laws
