pub mod Base64Lemmas
pub mod LongLemmas
pub mod VerdictLemmas
