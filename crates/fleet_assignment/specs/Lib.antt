pub mod Allocation
pub mod Beside
pub mod Best
pub mod Instance
pub mod Laws
pub mod Sharing
pub mod Tables
pub mod Within
