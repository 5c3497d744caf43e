pub mod AcceptedConfig
pub mod AcceptedGroups
pub mod Blanks
pub mod FirstLabelsLaws
pub mod Joined
pub mod NoFloat
pub mod Told
pub mod Within
