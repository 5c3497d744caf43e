pub mod Plain
pub mod Numbers
pub mod TakenWords
