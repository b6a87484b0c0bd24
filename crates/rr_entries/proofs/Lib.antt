pub mod WritingLemmas
pub mod OpeningLemmas
