pub mod Judging
pub mod Playing
pub mod Ending
pub mod RunLemmas
pub mod ForcedLemmas
