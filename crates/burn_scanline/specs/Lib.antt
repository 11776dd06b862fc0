pub mod Steps
pub mod Ring
pub mod Centre
pub mod Runs
pub mod EdgeTable
pub mod Change
pub mod Burned
pub mod Inner
