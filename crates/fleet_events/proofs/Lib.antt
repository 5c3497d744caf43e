pub mod DiscoverLemmas
pub mod TargetLemmas
pub mod Forms
