pub mod ListLemmas
pub mod MarkLemmas
pub mod NumberLemmas
pub mod SeriesLemmas
