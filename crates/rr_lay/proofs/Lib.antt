pub mod NewLinkLemmas
pub mod ReachLemmas
pub mod Sights
