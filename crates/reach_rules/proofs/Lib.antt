pub mod BitLemmas
pub mod Firsts
pub mod Limits
pub mod LimitObjects
pub mod TableLemmas
