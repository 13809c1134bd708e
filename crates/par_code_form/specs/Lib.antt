pub mod Items
pub mod Opcodes
pub mod Code
pub mod Named
pub mod Operands
pub mod Again
pub mod Frames
pub mod Method
pub mod Instructions
pub mod PoolNames
pub mod Placed
pub mod Placeable
pub mod PlaceableFrames
pub use Rattle.par_completes.specs as par_completes
pub use Rattle.par_completes.specs.par_typed as par_typed
pub use Rattle.par_values.specs as par_values
pub use Rattle.par_class.specs as par_class
pub use Rattle.par_class.specs.par_pool as par_pool
