pub mod Lines
pub mod Reading
pub mod Urls
pub mod Places
pub mod Members
pub mod Settings
