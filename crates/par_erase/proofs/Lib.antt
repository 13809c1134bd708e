pub mod Shown
pub mod ExprForms
pub mod StmtForms
pub mod Asks
pub mod Copies
pub mod Names
pub mod Bodies
