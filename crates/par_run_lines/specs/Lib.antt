pub mod Running
pub use Rattle.par_event_lines.specs as par_event_lines
