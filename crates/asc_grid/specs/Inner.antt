pub mod Cursor
pub mod Next
pub mod Rest
pub mod Values
