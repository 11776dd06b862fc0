pub mod EachLemmas
pub mod SoundLemmas
pub mod TokenLemmas
pub mod NumberLemmas
pub mod ReadLemmas
pub mod ShapeLemmas
pub mod GeometryLemmas
pub mod ListedLemmas
pub mod WritableLemmas
pub mod LoopLemmas
pub mod CursorLemmas
pub mod ClosedLemmas
pub mod WriteLemmas
mod WktExamples
