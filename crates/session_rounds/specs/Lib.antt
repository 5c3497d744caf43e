pub mod Beginnings
pub mod Rounds
pub mod Stops
pub mod Turns
