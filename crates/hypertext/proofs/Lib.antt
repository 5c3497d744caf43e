pub mod EscapingLemmas
