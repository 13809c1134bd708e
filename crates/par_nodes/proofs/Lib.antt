pub mod Forms
pub mod Rows
pub mod Completing
pub mod Branches
pub mod Statements
pub mod Expressions
pub mod Literals
