pub mod Agents
pub mod Choices
pub mod Laws
pub mod Offered
pub mod Sharing
pub mod Targets
pub mod Told
