mod Parted
mod Repeated
mod Counted
mod Tables
mod Taking
mod Meeting
mod Placing
mod Saying
mod Classes
pub mod Firsts
mod Giving
mod Having
mod Handed
pub mod Written
pub use Rattle.par_frames.proofs as par_frames
