pub mod Examples
pub mod Changes
