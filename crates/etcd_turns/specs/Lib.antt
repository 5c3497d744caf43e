pub mod Posts
pub mod Wishes
pub mod Sights
