pub mod Fits
pub mod Exprs
pub mod Stmts
pub mod Kept
pub mod Methods
pub mod Program
pub mod Inferred
pub mod Places
pub mod Frames
pub mod TypedExprs
pub mod TypedStmts
pub mod TypedBodies
pub mod Points
pub mod PointLaws
pub use Rattle.par_scope.specs as par_scope
