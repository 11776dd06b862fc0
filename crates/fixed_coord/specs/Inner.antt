pub mod Cut
pub mod Spelled
