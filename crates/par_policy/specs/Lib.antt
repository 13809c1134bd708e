pub mod Numbers
pub mod Marks
pub mod Sees
pub mod Order
pub mod Lattice
pub mod Normal
pub mod Laws
pub mod Products
pub use Rattle.par_bits.specs as par_bits
