pub mod Answers
pub mod Laws
pub mod Leases
pub mod Numbers
pub mod Verdicts
