pub mod LineLemmas
pub mod ReadingLemmas
pub mod ServingLemmas
pub mod SplitLemmas
pub mod StreamLemmas
