pub mod Tokens
pub mod Geometry
pub mod Parser
pub mod Grammar
pub mod Spelling
pub mod Answer
pub mod Inner
