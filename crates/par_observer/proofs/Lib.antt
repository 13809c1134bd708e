pub mod ExprSpans
pub mod StmtSpans
pub mod BodySpans
pub mod TableSpans
pub mod CheckSpans
pub mod SpanLaw
pub mod Highest
pub mod Placed
pub mod Passing
pub mod Unread
pub mod OfTree
pub mod Clashes
pub mod Flowing
pub mod Few
pub mod Ready
pub mod Securing
pub use Rattle.par_typing.proofs as par_typing
pub use Rattle.par_table.proofs.par_faults as par_faults
