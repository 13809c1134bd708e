pub mod Texts
pub mod Puts
pub mod Channels
pub mod Keys
pub use Rattle.par_event_lines.specs as par_event_lines
