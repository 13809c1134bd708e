pub mod Shapes
pub mod Drafts
pub mod Statements
pub mod Codes
