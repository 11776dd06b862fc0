pub mod Attribute
pub mod Layer
pub mod Rows
pub mod Next
pub mod Inner
