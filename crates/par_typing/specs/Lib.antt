pub mod TableLaws
pub mod Typed
