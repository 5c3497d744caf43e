pub mod Bits
pub mod Name
pub mod Rules
pub mod Spelling
pub mod OwnLimits
pub mod inner
pub mod Table
