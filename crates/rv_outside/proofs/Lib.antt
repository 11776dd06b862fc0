pub mod FetchLemmas
pub mod FilesLemmas
pub mod WrittenLemmas
