pub mod Series
pub mod Blocks
