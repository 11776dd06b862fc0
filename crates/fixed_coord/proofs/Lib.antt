pub mod TextLemmas
pub mod RoundLemmas
pub mod DigitLemmas
pub mod CutLemmas
pub mod PlainLemmas
pub mod ReadLemmas
pub mod WriteLemmas
pub mod ShortestLemmas
mod NumberExamples
pub mod FewestLemmas
pub mod ShortLemmas
