pub mod Sieve
pub mod Inner
