pub mod Checks
pub mod Marks
pub mod Tallies
pub mod Audits
pub mod Renewals
pub mod Laws
