pub mod Handover
pub mod Spans
