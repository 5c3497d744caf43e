pub mod Unknown
pub mod Names
pub mod Unread
pub mod Nearest
