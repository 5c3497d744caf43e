pub mod Forms
pub mod Expansions
pub mod Sweeping
pub mod Fitting
pub mod Inputs
pub mod Counting
pub mod DefaultLemmas
