pub mod Layer
pub mod BackWords
pub mod RoundTrip
pub mod Check
