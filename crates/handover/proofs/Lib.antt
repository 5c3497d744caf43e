pub mod Taken
pub mod SpanLemmas
pub mod PairLemmas
pub mod RowLemmas
pub mod KeptLemmas
