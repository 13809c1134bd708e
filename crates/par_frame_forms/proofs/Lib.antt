pub mod Again
pub mod Exact
pub mod Known
pub mod Shortest
