pub mod FleetParts
pub mod PartFilters
pub mod PartLaws
pub mod PartSums
pub mod Splits
