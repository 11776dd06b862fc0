pub mod FaultLemmas
pub mod CornerLemmas
