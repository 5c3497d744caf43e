pub mod Lines
pub mod Chains
pub mod Running
pub mod Reading
pub mod Laws
