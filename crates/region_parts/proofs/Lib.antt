pub mod ChainLemmas
pub mod OwnLemmas
pub mod PickLemmas
