pub mod Lists
pub mod Parts
pub mod Envs
pub mod Locks
pub mod Firsts
pub mod Rows
