pub mod Instructions
pub mod Turn
pub mod Objects
pub mod Frames
pub mod Running
pub mod Site
pub mod Throwing
pub mod Settled
pub mod Advanced
pub mod Quiet
pub mod Machine
pub use Rattle.par_method_area.specs.par_step_laws as par_step_laws
