pub mod Levels
pub mod Segments
pub mod Crossings
pub mod Elevation
pub mod Inner
