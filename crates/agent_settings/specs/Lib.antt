pub mod Members
pub mod Names
pub mod Reading
pub mod Settings
