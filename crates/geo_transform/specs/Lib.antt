pub mod Layout
pub mod Fault
pub mod Frame
pub mod Corner
pub mod Inner
