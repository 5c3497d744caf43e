pub mod InOrder
pub mod Texts
pub mod Lists
pub mod OneLine
