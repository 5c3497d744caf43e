pub mod SpreadLemmas
pub mod WitnessLemmas
