pub mod ColumnLemmas
pub mod BlankLemmas
pub mod RecordLemmas
pub mod FaultLemmas
pub mod RowLemmas
pub mod LayerLemmas
