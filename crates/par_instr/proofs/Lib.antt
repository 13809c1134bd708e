pub mod Listed
pub mod Forms
pub mod Rows
pub mod Spellings
pub mod Places
pub mod Decodings
pub mod Standing
pub mod Blanks
