pub mod NumberSets
pub mod Normal
pub mod Stays
pub mod Nearest
pub mod Added
pub mod Later
pub mod Loops
pub mod Steps
pub mod Earlier
pub mod Exceeded
pub mod Alike
pub mod Made
pub mod Found
pub mod Counted
pub mod Behind
pub mod Sorted
pub use Rattle.par_names.proofs as names
