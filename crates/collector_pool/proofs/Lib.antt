pub mod AnswerLemmas
pub mod VisitLemmas
pub mod WorkLemmas
