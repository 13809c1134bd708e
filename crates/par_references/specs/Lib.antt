pub mod Builtins
pub mod Conditions
pub mod Firsts
pub mod Named
pub mod Placed
pub mod Twice
