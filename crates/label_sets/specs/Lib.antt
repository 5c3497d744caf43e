pub mod Name
pub mod Labels
pub mod Laws
pub mod Written
pub mod Target
pub mod Finish
pub mod inner
pub mod Parts
