pub use Rattle.flow_defs.specs.Records
pub mod Spans
pub mod Fronts
