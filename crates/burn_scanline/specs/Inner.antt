pub mod Growing
pub mod Crossing
pub mod Linking
pub mod Scan
