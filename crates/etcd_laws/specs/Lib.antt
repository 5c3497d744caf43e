pub mod Laws
pub mod Meaning
pub mod Scripts
pub mod Stores
