pub mod Playing
pub mod TurnEnds
pub mod Judging
pub mod Assets
pub mod HistoryLemmas
pub mod WholeBytes
pub mod PartsLemmas
pub mod ReadingLemmas
