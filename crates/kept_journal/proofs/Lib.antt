pub mod Beginnings
pub mod Growing
pub mod Beginning
