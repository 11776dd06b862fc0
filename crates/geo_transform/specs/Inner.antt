pub mod GridSize
pub mod Span
pub mod Way
