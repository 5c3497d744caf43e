mod Forms
mod KnownTargets
pub mod Checking
mod RenewedWhole
