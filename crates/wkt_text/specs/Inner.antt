pub mod Cursor
pub mod Listed
pub mod Spelled
