pub mod Values
pub mod Heap
pub mod Places
pub mod Effects
pub mod Frames
pub mod Growing
pub mod Reasons
pub mod Turns
pub mod Whole
pub mod Linking
pub mod Shaped
pub mod Texts
pub mod Caught
pub mod Mains
pub mod Never
pub use Rattle.par_frames.proofs as par_frames
pub use Rattle.par_kinds.proofs as par_kinds
