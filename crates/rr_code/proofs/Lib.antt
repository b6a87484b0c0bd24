pub mod ByteLemmas
pub mod PlayersLemmas
pub mod ReadingLemmas
pub mod TextLemmas
pub mod UnspacedLemmas
