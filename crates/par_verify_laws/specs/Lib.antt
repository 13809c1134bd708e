pub mod States
pub mod Right
pub mod SoundLaws
pub mod LinkedLaws
pub mod Verified
pub mod Laws
pub use Rattle.par_kinds.specs as par_kinds
pub use Rattle.par_frames.specs as par_frames
