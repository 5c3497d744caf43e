pub mod Written
pub mod Keeping
pub mod Beginning
