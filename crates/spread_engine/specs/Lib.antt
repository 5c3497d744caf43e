pub mod Witness
pub mod Telling
