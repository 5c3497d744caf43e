pub mod SlotLemmas
pub mod Telling
pub mod Anew
pub mod NumberLemmas
pub mod SameLemmas
