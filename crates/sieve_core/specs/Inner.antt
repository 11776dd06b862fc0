pub mod Neighbours
pub mod Targets
pub mod Values
