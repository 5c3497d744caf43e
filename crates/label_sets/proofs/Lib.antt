pub mod Places
pub mod Kept
pub mod LawProofs
pub mod Objects
pub mod Identity
pub mod Finals
pub mod ReadBack
