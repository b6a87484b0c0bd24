pub mod MarkLemmas
pub mod SearchLemmas
pub mod PlaceLemmas
pub mod IndexLemmas
