pub mod Stretch
pub mod Pieces
