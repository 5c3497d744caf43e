pub mod AskingLemmas
pub mod RoundLemmas
pub mod StopLemmas
