pub mod Edge
pub mod Crossing
pub mod EdgeTable
pub mod EdgeOrder
pub mod Walk
pub mod Inner
