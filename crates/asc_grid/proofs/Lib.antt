pub mod CursorLemmas
pub mod TokenLemmas
pub mod WriteLemmas
pub mod HeaderLemmas
pub mod HalfLemmas
pub mod LayoutLemmas
mod GridExamples
pub mod CanonicalTokenLemmas
pub mod CanonicalLemmas
pub mod ReadBackLemmas
