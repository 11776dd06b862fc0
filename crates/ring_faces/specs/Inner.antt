pub mod Turns
pub mod Lattice
pub mod Blocks
pub mod Cycles
pub mod Tables
pub mod Chains
pub mod Owners
