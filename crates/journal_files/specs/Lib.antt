pub mod Leading
pub mod Starting
pub mod Opening
