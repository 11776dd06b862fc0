pub mod Touched
pub mod AlongCells
pub mod Inner
