pub mod ProductLemmas
pub mod TurnLemmas
pub mod ColumnLemmas
pub mod StretchLemmas
pub mod PieceLemmas
pub mod UniteLemmas
pub mod AlongLemmas
