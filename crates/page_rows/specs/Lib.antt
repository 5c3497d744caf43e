pub mod Allocations
pub mod Booked
pub mod Meant
