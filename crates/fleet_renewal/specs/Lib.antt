pub mod Renewed
pub mod Tables
