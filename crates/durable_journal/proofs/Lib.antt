pub mod WholeParts
pub mod Found
pub mod Bytes
pub mod EventLines
pub mod Beginnings
pub mod Accepted
pub mod Crashes
pub mod Opening
pub mod Marked
pub mod Histories
pub mod Refused
pub mod FileTexts
pub mod Noted
mod FirstLines
