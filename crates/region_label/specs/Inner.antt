pub mod Rows
pub mod Lists
pub mod Blocks
pub mod Notes
pub mod Table
pub mod Sizes
