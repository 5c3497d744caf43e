pub mod Counting
pub mod Laters
pub mod Renewals
