pub mod Apart
pub mod Continuing
pub mod Going
pub mod HistoryLemmas
pub mod InstanceLemmas
pub mod LimitsKept
pub mod TextLemmas
