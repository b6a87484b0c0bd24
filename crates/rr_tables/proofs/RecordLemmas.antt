pub mod WorldLemmas
pub mod WordLemmas
pub mod TakingLemmas
pub mod PlayedLemmas
pub mod Schedules
pub mod LentLemmas
