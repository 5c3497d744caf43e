pub mod Behind
pub mod Numbers
pub mod Lengths
pub mod Beside
pub mod Ends
pub mod Spelled
