pub mod Parts
pub mod History
pub mod Laws
pub mod Rounds
