pub mod Layouts
pub mod Syncs
pub mod Refusals
pub mod Places
pub mod Standings
