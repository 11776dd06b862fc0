pub mod Causes
pub mod Line
pub mod Printed
pub mod Check
pub mod Inner
