pub mod Forms
pub mod Left
