pub mod Lists
pub mod Numbers
pub mod Posts
pub mod Reading
pub mod Series
pub mod Serving
pub mod States
pub mod Urls
