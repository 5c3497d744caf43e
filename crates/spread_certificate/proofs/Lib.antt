pub mod WithinLemmas
pub mod Evenest
pub mod EvenLemmas
pub mod JudgeLemmas
pub mod Counting
pub mod Finding
pub mod DocumentLemmas
