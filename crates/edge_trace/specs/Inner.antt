pub mod Sides
pub mod Finding
pub mod Links
pub mod Table
