pub mod Lines
pub mod Contours
pub mod Points
pub mod Inner
