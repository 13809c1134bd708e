pub mod Spans
pub mod SpanLaw
pub mod Passes
pub mod Trees
pub mod Judgements
pub use Rattle.par_table.specs.par_faults as par_faults
pub use Rattle.par_typing.specs as par_typing
