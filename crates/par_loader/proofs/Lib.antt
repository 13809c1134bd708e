pub mod Counting
pub mod Asked
pub mod Finding
pub mod Read
pub mod Unread
pub mod Seen
pub mod SoFar
pub mod Ended
pub mod Loop
pub mod Linking
pub mod Judging
pub mod Coded
pub mod Mains
pub use Rattle.par_link.proofs as par_link
