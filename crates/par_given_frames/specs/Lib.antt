pub mod Reads
pub mod Sizes
pub mod Takes
pub mod Met
pub mod Named
pub mod Before
pub mod Answers
pub mod Laws
pub use Rattle.par_frames.specs as par_frames
pub use Rattle.par_frames.specs.par_kinds as par_kinds
