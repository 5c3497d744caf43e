mod OneLine
pub mod Said
pub mod Whole
pub mod Steps
