pub mod Lists
pub mod Pieces
pub mod Members
pub mod Files
pub mod Written
