pub mod Names
pub mod Pieces
pub mod ExprForms
pub mod WayForms
pub mod AgainForms
pub mod StmtForms
pub mod Methods
